-- The rows of a match and of the round are fair reports, and name whom they should.
use Rattle.std.proofs.Common.{◌≡◌, ℕ, ◌+◌, true, List, ◌∷◌, ◌++◌, Some, Option, Result, sym, ap, subst, ◌∙◌}
use Rattle.std.specs.List.{All}
use Rattle.market.specs.declared.book_id.BookId.{BookId}
use Rattle.market.specs.declared.call.Call.{Call}
use Rattle.market.specs.declared.leg.Leg.{Leg}
use Rattle.market.specs.declared.order.Order.{Order}
use Rattle.market.specs.declared.price.Price.{Price}
use Rattle.market.specs.declared.refusal.Refusal.{Refusal}
use Rattle.market.specs.declared.row.Row.{Row}
use Rattle.market.specs.declared.side.Side.{Side}
use Rattle.market.specs.Combinations.{made, Rising}
use Rattle.market.specs.Fills.{facing, divided, filled_book}
use Rattle.market.specs.Implied.{LegsTaken, ImpliedFill}
use Rattle.market.specs.Ladders.{ladders, net}
use Rattle.market.specs.Matching.{Match, Match.filled, Match.no_more, Match.fill, Match.implied}
use Rattle.market.specs.Orders.{lot_book, book_number}
use Rattle.market.specs.Prices.{good}
use Rattle.market.specs.Round.{legs_of, left_of, Round, Round.over, Round.takes}
use Rattle.market.specs.Rows.{fill_rows}
use Rattle.market.specs.Turns.{Turn}
use Rattle.market.proofs.Asides.{no_instrument, ladders_left}
use Rattle.market.proofs.FairFills.{Known, legs_made, fill_fair}
use Rattle.market.proofs.FairImplied.{LegsLaid, implied_fair}
use Rattle.market.proofs.Lists.{all_middle}
use Rattle.market.proofs.Parties.{facing_known, fill_named, implied_named, Told, told_none, told_then}

module _ {Message : Type 0} (reading : Message → Result Call Refusal) (h : List (Turn Message)) (shares : List ℕ → ℕ → List ℕ) where
  -- a property of books that lasts as orders trade: each order is known, and what is taken of legs is laid out as the ladders
  pub record Lasts (Fit : List Order → Type 0) : Type 0 where
    pub knows : (os : List Order) → Fit os → All (Known reading h) os
    pub lays : {f n u : ℕ} {s : Side} {legs : List Leg} {os os' : List Order} {rows : List Row} → Rising legs → Fit os → LegsTaken shares f n s u legs os rows os' →
        LegsLaid f n s u legs os rows
    pub filled : (b : BookId) (s : Side) (p : Price) (os : List Order) (q : ℕ) → Fit os → Fit (filled_book shares b s p os q)
    pub taken : {f n u : ℕ} {s : Side} {legs : List Leg} {os os' : List Order} {rows : List Row} → LegsTaken shares f n s u legs os rows os' → Fit os → Fit os'
    pub left : (ahead : List Order) (o : Order) (behind : List Order) (k : ℕ) → Fit (ahead ++ (o ∷ behind)) → Fit (ahead ++ left_of o k ++ behind)

  module _ (cs : List (List Leg)) (rising : (c : ℕ) (legs : List Leg) → made cs c ≡ Some legs → Rising legs) (Fit : List Order → Type 0) (lasts : Lasts Fit) where
    rises : (b : BookId) (legs : List Leg) → legs_of cs b ≡ Some legs → Rising legs
    rises b legs e = rising (book_number b) legs (legs_made cs b legs e)

    -- where the order that takes is set down first, the ladders stay as they stood
    laid_on : (f u : ℕ) {os : List Order} {rows : List Row} (ahead : List Order) (o : Order) (behind : List Order) (legs : List Leg) → legs_of cs (lot_book o.lot) ≡ Some legs →
        LegsLaid f o.number o.side u legs (ahead ++ left_of o u ++ behind) rows → os ≡ ahead ++ (o ∷ behind) → LegsLaid f o.number o.side u legs os rows
    laid_on f u ahead o behind legs has laid e = record {
      trades = laid.trades;
      only = laid.only;
      each = laid.each;
      nets = λ v low high.
          laid.nets v low high
          ∙ ap (λ ls. net ls v) (ladders_left ahead o behind u (no_instrument cs (lot_book o.lot) legs has) o.side legs ∙ ap (ladders o.side legs) (sym e));
    }

    -- a fill of the level that an order faces
    fill_told : (f q : ℕ) (o : Order) (p : Price) (os : List Order) → Known reading h o → good o.side p o.price ≡ true → (legs : Option (List Leg)) → legs ≡ legs_of cs (lot_book o.lot) → Fit os →
        Told reading h cs f (f + 1) (fill_rows f o.number legs (facing (lot_book o.lot) o.side p os) (divided shares (lot_book o.lot) o.side p os q))
    fill_told f q o p os known within legs e fit =
        let level = facing (lot_book o.lot) o.side p os in
        let faced = facing_known reading h (lot_book o.lot) o.side p os (lasts.knows os fit) in
        record {
          fair = fill_fair reading h cs f o p known within legs e (λ ls has. rises (lot_book o.lot) ls (sym e ∙ has)) level (divided shares (lot_book o.lot) o.side p os q) faced;
          named = fill_named reading h cs f o known p legs e level (divided shares (lot_book o.lot) o.side p os q) faced;
        }

    -- an implied-in fill, whose contract trades are laid out as the ladders
    implied_told : (f : ℕ) (o : Order) → Known reading h o → (legs : List Leg) → legs_of cs (lot_book o.lot) ≡ Some legs →
        {level : Option Price} {q u : ℕ} {os os' os'' : List Order} {rows : List Row} (i : ImpliedFill shares legs o level f q u os os' rows os'') → Fit os' →
        LegsLaid f o.number o.side u legs os i.taken → Told reading h cs f (f + 1) rows
    implied_told f o known legs exists {os' = os'} i fit laid = record {
      fair = implied_fair reading h cs f o known legs exists shares i laid;
      named = implied_named reading h cs f o known shares legs exists i (lasts.knows os' fit);
    }

    pub match_told : (legs : Option (List Leg)) (o : Order) → legs ≡ legs_of cs (lot_book o.lot) → Known reading h o →
        {f q f' q' : ℕ} {os os' : List Order} {rows : List Row} → Match shares legs o f q os rows f' q' os' → Fit os → Told reading h cs f f' rows
    match_told legs o e known filled fit = told_none reading h cs _
    match_told legs o e known (no_more none unit) fit = told_none reading h cs _
    match_told legs o e known (fill {f} {q} {os = os} p some best within first more) fit =
        told_then reading h cs (fill_told f q o p os known within legs e fit) (match_told legs o e known more (lasts.filled (lot_book o.lot) o.side p os q fit))
    match_told legs o e known (implied {f} ls level has best i more) fit =
        let exists : legs_of cs (lot_book o.lot) ≡ Some ls = sym e ∙ has in
        told_then reading h cs
        (implied_told f o known ls exists i fit (lasts.lays (rises (lot_book o.lot) ls exists) fit i.takes))
        (match_told legs o e known more (lasts.taken i.takes fit))

    pub round_told : {f f' : ℕ} {os os' : List Order} {rows : List Row} → Round shares cs f os rows f' os' → Fit os → Told reading h cs f f' rows
    round_told (over none) fit = told_none reading h cs _
    round_told (takes {f} {u} {os = os} ahead o behind legs first has i more) fit =
        let all : Fit (ahead ++ (o ∷ behind)) = subst Fit first.stands fit in
        let known : Known reading h o = all_middle (Known reading h) ahead o behind (lasts.knows (ahead ++ (o ∷ behind)) all) in
        let before : Fit (ahead ++ left_of o u ++ behind) = lasts.left ahead o behind u all in
        let laid : LegsLaid f o.number o.side u legs (ahead ++ left_of o u ++ behind) i.taken = lasts.lays (rises (lot_book o.lot) legs has) before i.takes in
        told_then reading h cs
        (implied_told f o known legs has i before (laid_on f u ahead o behind legs has laid first.stands))
        (round_told more (lasts.taken i.takes before))
