-- A field that is taken.
use Rattle.std.proofs.Common.{◌≡◌, ℕ, Bool, false, List, [], ◌∷◌, Some, None, Option, refl, ◌∙◌, arith}
use Rattle.market.specs.declared.refusal.Refusal.TheVariants.{Field}
use Rattle.std.specs.Option.{ok_or}
use Rattle.line.specs.Bytes.{first}
use Rattle.line.specs.Kinds.{opens, none_left}
use Rattle.line.specs.Cursors.{rest, Gives, Next, Took}
use Rattle.line.specs.declared.cursor.Cursor.{Cursor}
use Rattle.line.specs.declared.cursor.Placed.{Placed}

opened : (p : List ℕ → Bool) (fs : List (List ℕ)) → none_left fs ≡ false → opens p fs ≡ p (first fs)
opened p [] h = absurd (let z : ◌≡◌ {A = ℕ} 0 1 = cc in omega arith)
opened p (f ∷ fs) h = refl

-- the field that was next gives its value, or is refused at its place
pub taken : {X : Type 0} (p : List ℕ → Bool) (value : List ℕ → X) (s t : Cursor) (placed : Placed) (o : Option X) → Next s (Some placed) t → Gives p value (first (rest s)) o → Took p value s (ok_or o (Field s.index)) t
taken p value s t placed (Some x) n g = (opened p (rest s) n.0 ∙ g.0, g.1, n.3, n.4)
taken p value s t placed None n g = (opened p (rest s) n.0 ∙ g, refl)
