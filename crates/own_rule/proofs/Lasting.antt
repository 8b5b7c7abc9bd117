-- What no call changes of a venue: its product and its bands.
use Rattle.std.proofs.Common.{◌≡◌, ℕ, ltb, List, length, Result, refl}
use Rattle.std.proofs.lemmas.Bool.{cond_both}
use Rattle.market.specs.declared.call.Call.{Call}
use Rattle.market.specs.declared.refusal.Refusal.{Refusal}
use Rattle.market.specs.declared.row.Row.{Row}
use Rattle.market.specs.BookCalls.{BookState, withdrawn}
use Rattle.market.specs.Endings.{Ending, refused, done, Outcome, close, Follows}
use Rattle.market.specs.Venues.{View, withdraws, in_phase, at_book, Does, Does.at_fault, Does.enters, Does.amends, Does.quotes, Does.cancels, Does.finds, Does.makes, Does.switches, Takes, Takes.unread, Takes.read}

-- the same product and the same bands
pub record SameMarket (v v' : View) : Type 0 where
  pub product : v'.product ≡ v.product
  pub bands : v'.bands ≡ v.bands

-- where a call is accepted, it leaves these
abbrev Leaves : View → Ending View → Type 0
Leaves v (refused e) = Unit {0}
Leaves v (done e) = SameMarket v e.after

same : (v : View) → SameMarket v v
same v = record { product = refl; bands = refl }

book_leaves : (v w : View) → SameMarket v w → (e : Ending BookState) → Leaves v (at_book w e)
book_leaves v w s (refused e) = tt
book_leaves v w s (done e) = record { product = s.product; bands = s.bands }

module _ (shares : List ℕ → ℕ → List ℕ) (v : View) where
  does_leave : (c : Call) (e : Ending View) → Does shares v c e → Leaves v e
  does_leave c _ (at_fault _ e h) = tt
  does_leave _ _ (enters p i s q r d e h m) = book_leaves v v (same v) e
  does_leave _ _ (amends p n q r e h m) = book_leaves v v (same v) e
  does_leave _ _ (quotes p i q r k w e h m) = book_leaves v v (same v) e
  does_leave _ _ (cancels p n e h m) = book_leaves v v (same v) e
  does_leave _ _ (finds p legs c h k) = record { product = refl; bands = refl }
  does_leave _ _ (makes p legs h k) = record { product = refl; bands = refl }
  does_leave _ _ (switches w phase h) = book_leaves v (in_phase v phase) (record { product = refl; bands = refl }) (withdrawn (withdraws w) v.book)

  takes_leave : (r : Result Call Refusal) (e : Ending View) → Takes shares v r e → Leaves v e
  takes_leave _ _ (unread e) = tt
  takes_leave _ _ (read c e d) = does_leave c e d

  close_leaves : (room : ℕ) (e : Ending View) → Leaves v e → SameMarket v (close v room e).after
  close_leaves room (refused e) l = same v
  close_leaves room (done e) l = cond_both (ltb room (length e.rows)) _ _ (λ (o : Outcome View). SameMarket v o.after) (λ _. same v) (λ _. l)

  -- a call leaves both as they were
  pub follows_same : (r : Result Call Refusal) (room : ℕ) (answer : Result (ℕ × ℕ) Refusal) (rows : List Row) (v' : View) → Follows (Takes shares v r) v room answer rows v' → SameMarket v v'
  follows_same r room answer rows v' f = rw f.left (close_leaves room f.ending (takes_leave r f.ending f.allowed))
