-- What a quote comes to.
use Rattle.std.proofs.Common.{◌≡◌, ℕ, ◌+◌, ◌<◌, ◌≤◌, ◌++◌, List, [], refl, ap, ◌∙◌, subst, arith}
use Rattle.std.proofs.lemmas.List.{append_assoc}
use Rattle.market.specs.declared.acceptance.Acceptance.TheVariants.{Quoted}
use Rattle.market.specs.declared.leg.Leg.{Leg}
use Rattle.market.specs.declared.order.Order.{Order}
use Rattle.market.specs.declared.quote.Quote.{Quote}
use Rattle.market.specs.declared.refusal.Refusal.{Refusal}
use Rattle.market.specs.declared.refusal.Refusal.TheVariants.{NumbersSpent}
use Rattle.market.specs.BookCalls.{BookState}
use Rattle.market.specs.Endings.{refused}
use Rattle.market.specs.Quoting.{bid_of, offer_of, needs, RevisesOld, Quotes}
use Rattle.market.specs.Quoting.Quotes.{no_number, placed}
use Rattle.book.specs.declared.placing.PlacedSides.{PlacedSides}
use Rattle.book.specs.declared.side_numbers.SideNumbers.{SideNumbers}
use Rattle.book.specs.declared.told.Told.{Told}
use Rattle.book.specs.OldSides.{numbers_needed, BothSettled}
use Rattle.book.specs.PlacedSides.{PlacedBoth, NotBoth}
use Rattle.book.specs.Reports.{Holds}
use Rattle.book.specs.Rounds.{Rounded}
use Rattle.book.proofs.Closing.{Ready}
use Rattle.book.proofs.PlacedSides.{needs_number}

module _ (shares : List ℕ → ℕ → List ℕ) (cs : List (List Leg)) (m : BookState) (k : Quote) (os₀ : List Order) (same : os₀ ≡ m.orders) (t₀ : Told) (start : Holds t₀ []) (numbers : SideNumbers) (os : List Order) (t : Told) (olds : BothSettled k os₀ t₀ numbers os t) (needed : ℕ) (is : needed ≡ numbers_needed numbers.bid + numbers_needed numbers.offer) where
  settles : RevisesOld (bid_of k) (offer_of k) m.orders olds.bid olds.offer olds.rows os
  settles = subst (λ (xs : List Order). RevisesOld (bid_of k) (offer_of k) xs olds.bid olds.offer olds.rows os) same olds.settles

  -- the numbers that the sides need are those of the market's rules
  needs_all : needs (bid_of k) olds.bid + needs (offer_of k) olds.offer ≡ needed
  needs_all = omega (arith, is, needs_number (bid_of k) olds.bid numbers.bid olds.bid_stands, needs_number (offer_of k) olds.offer numbers.offer olds.offer_stands)

  pub quotes_spent : 100000 < m.next + needed → Quotes shares cs m k (refused NumbersSpent)
  quotes_spent spent = no_number settles (omega (arith, spent, needs_all))

  module _ (few : m.next + needed ≤ 100000) (os' : List Order) (t' : Told) where
    fit : m.next + (needs (bid_of k) olds.bid + needs (offer_of k) olds.offer) ≤ 100000
    fit = omega (arith, few, needs_all)

    pub quotes_full : (e : Refusal) → NotBoth shares cs k m.next os t olds.bid olds.offer e t' → Quotes shares cs m k (refused e)
    quotes_full e none = none.refused m olds.rows refl settles fit

    pub quotes_placed : (p : PlacedSides) (os'' : List Order) (t'' : Told) → PlacedBoth shares cs k m.next os t olds.bid olds.offer p os' t' → Rounded shares cs p.offer.after.next_fill os' t' os'' t''
        → Ready (Quotes shares cs m k) (Quoted p.bid.number p.offer.number) (record { orders = os''; next = p.offer.after.next }) t''
    quotes_placed p os'' t'' both round = record {
      told = olds.rows ++ (both.bid_rows ++ (both.offer_rows ++ round.rows));
      allowed = placed settles fit both.bid both.offer round.run;
      holds = subst (Holds t'') (append_assoc olds.rows (both.bid_rows ++ both.offer_rows) round.rows ∙ ap (λ xs. olds.rows ++ xs) (append_assoc both.bid_rows both.offer_rows round.rows))
          (round.more.holds (olds.rows ++ (both.bid_rows ++ both.offer_rows)) (both.more.holds olds.rows (olds.more.holds [] start)));
    }
