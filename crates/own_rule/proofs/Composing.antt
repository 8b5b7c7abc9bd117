-- One call more in a session.
use Rattle.std.proofs.Common.{◌≡◌, ℕ, suc, length, ◌+◌, ◌<◌, List, [], ◌∷◌, ◌++◌, take, get_or, sym, refl, ap, ◌∙◌, arith}
use Rattle.std.proofs.Math.Seq.{take-suc}
use Rattle.std.proofs.lemmas.List.{map-append, reverse-append}
use Rattle.std.proofs.lemmas.List.Elements.{All-cons}
use Rattle.std.specs.Borrow.{Bor}
use Rattle.market.specs.Turns.{Turn}
use Rattle.market.specs.Venues.{View}
use Rattle.line.specs.Gateways.{GoesOn}
use Rattle.own_rule.specs.Composed.{bytes, Session}
use Rattle.own_rule.proofs.Lasting.{SameMarket}

pub session_more : (shares : List ℕ → ℕ → List ℕ) (build : List ℕ) (lines : List (List ℕ)) (v : View) (t : Turn (List ℕ)) (v' : View) →
    Session shares build lines t.room v → SameMarket v v' → GoesOn shares v t v' → Session shares build (lines ++ t.message ∷ []) t.room v'
session_more shares build lines v t v' s same g =
    let on = g.goes s.turns s.reached in
    record {
      built = record { answer = s.built.answer; start = s.built.start; opened = s.built.opened; product = same.product ∙ s.built.product; bands = same.bands ∙ s.built.bands };
      turns = t ∷ s.turns;
      calls = ap (λ ls. t.message ∷ ls) s.calls ∙ sym (reverse-append lines (t.message ∷ []));
      rooms = All-cons (λ x. x.room ≡ t.room) t s.turns refl s.rooms;
      reached = on.0;
      sound = on.1;
    }

-- the lines up to one more
pub bytes_next : (lines : List (Bor (List ℕ))) (i : ℕ) (d : Bor (List ℕ)) → i < length lines → bytes (take (i + 1) lines) ≡ bytes (take i lines) ++ (get_or lines i d).now ∷ []
bytes_next lines i d h =
    let e : i + 1 ≡ suc i = omega arith in
    rw e (ap bytes (take-suc lines i d h) ∙ map-append (λ line. line.now) (take i lines) (get_or lines i d ∷ []))
