-- The law over sessions, by induction over the turns, under any rule that keeps its laws.
use Rattle.std.proofs.Common.{◌≡◌, ℕ, false, List, [], ◌∷◌, Result}
use Rattle.std.specs.List.{All}
use Rattle.std.proofs.lemmas.List.Elements.{All-nil, All-cons, All-weaker}
use Rattle.rules.specs.Domain.{Laws}
use Rattle.market.specs.declared.call.Call.{Call}
use Rattle.market.specs.declared.refusal.Refusal.{Refusal}
use Rattle.market.specs.Endings.{Follows}
use Rattle.market.specs.Round.{eligible}
use Rattle.market.specs.Turns.{Turn}
use Rattle.market.specs.Entries.{Entered.earlier}
use Rattle.market.specs.Parties.{Named}
use Rattle.market.specs.FairTrades.{EachFair}
use Rattle.market.specs.Sessions.{Reached, Reached.built, Reached.turn, Sound}
use Rattle.market.specs.Venues.{View, fresh, Takes}
use Rattle.market.proofs.FairCalls.{turn_told}
use Rattle.market.proofs.FairReports.{fair_turns}
use Rattle.market.proofs.Making.{Table, fresh_table, follows_table}
use Rattle.market.proofs.Parties.{named_later}
use Rattle.market.proofs.Quiet.{QuietView, follows_quiet}
use Rattle.market.proofs.SingleQuotes.{SingleQuotes, fresh_single, follows_single}
use Rattle.market.proofs.Standing.{Standing, PastNamed, stands_rested, said_entered, standing_more, fresh-stands}
use Rattle.market.proofs.Taking.{Came, follows_came, came_moves}

module _ {Message : Type 0} (reading : Message → Result Call Refusal) where
  -- what holds of a session: sums, numbers and what rests, fair reports that name whom they should, and a quiet venue
  record Lawful (h : List (Turn Message)) (v : View) : Type 0 where
    standing : Standing reading h v
    named : PastNamed reading h v
    fair : EachFair reading v.combinations h
    single : SingleQuotes v
    quiet : QuietView v
    table : Table v

  lawful_sound : (h : List (Turn Message)) (v : View) → Lawful h v → Sound reading h v
  lawful_sound h v l =
      let s = l.standing in
      record {
        conserved = s.conserved;
        numbered = s.numbered;
        no_other = s.no_other;
        named = l.named;
        rests_entered = λ i o at. let w = s.written i o at in record { entry = w.entry; entered = w.entered; number = w.number; participant = w.participant; book = w.book; side = w.side; limit = w.limit; quote = w.quote };
        single_quotes = l.single;
        rests_made = s.made;
        fair = l.fair;
        uncrossed = s.orderly.uncrossed;
        by_arrival = s.orderly.by_arrival;
        quiet = l.quiet;
        table = l.table;
      }

  module _ (shares : List ℕ → ℕ → List ℕ) (laws : Laws shares) where
    -- a turn, and the venue before it
    module _ (t : Turn Message) (h : List (Turn Message)) (u v : View) (f : Follows (Takes shares u (reading t.message)) u t.room t.answer t.rows v) where
      turn_came : Came shares u (reading t.message) t.answer t.rows v
      turn_came = follows_came shares u t.room (reading t.message) t.answer t.rows v f

      lawful_more : Lawful h u → Lawful (t ∷ h) v
      lawful_more l =
          let s = l.standing in
          let came = came_moves shares laws u (reading t.message) s.orderly (stands_rested reading h u s) turn_came in
          let m = came.moves in
          let told = turn_told reading shares laws t h u v s (said_entered reading h u s t) f in
          record {
            standing = standing_more reading t h u v s l.named came.new came.says m;
            named = All-cons (λ x. All (Named reading (t ∷ h) v.combinations) x.rows) t h told.1
                (All-weaker (λ x. All (Named reading h u.combinations) x.rows) (λ x. All (Named reading (t ∷ h) v.combinations) x.rows)
                (λ x. named_later reading h (t ∷ h) u.combinations v.combinations (λ e. earlier) m.grows x.rows) h l.named);
            fair = (told.0, fair_turns reading u.combinations v.combinations m.grows h l.fair);
            single = follows_single shares u v (reading t.message) t.room t.answer t.rows l.single f;
            quiet = follows_quiet shares u l.quiet s.made (reading t.message) t.room t.answer t.rows v f;
            table = follows_table shares u v (reading t.message) t.room t.answer t.rows l.table f;
          }

    lawful : {h : List (Turn Message)} {v : View} → Reached reading shares h v → Lawful h v
    lawful {v = v} (built e) = record {
      standing = fresh-stands reading v e;
      named = All-nil (λ t. All (Named reading [] v.combinations) t.rows);
      fair = tt;
      single = rw e (fresh_single v.product v.bands);
      quiet = rw e (All-nil (λ o. eligible [] [] o ≡ false));
      table = rw e (fresh_table v.product v.bands);
    }
    lawful {v = v} (turn {t} {h} {u} r f) = lawful_more t h u v f (lawful r)

    pub every_session : (h : List (Turn Message)) (v : View) → Reached reading shares h v → Sound reading h v
    every_session h v r = lawful_sound h v (lawful r)

    -- a call that follows the rules goes on with the session
    pub goes_on : (t : Turn Message) (h : List (Turn Message)) (u v : View) → Reached reading shares h u →
        Follows (Takes shares u (reading t.message)) u t.room t.answer t.rows v → Reached reading shares (t ∷ h) v × Sound reading (t ∷ h) v
    goes_on t h u v r f = let r' : Reached reading shares (t ∷ h) v = turn r f in (r', every_session (t ∷ h) v r')

    -- a venue just built begins one
    pub begins : (v : View) → v ≡ fresh v.product v.bands → Reached reading shares [] v × Sound reading [] v
    begins v e = let r : Reached reading shares [] v = built e in (r, every_session [] v r)
