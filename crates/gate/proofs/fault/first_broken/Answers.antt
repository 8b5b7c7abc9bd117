use Rattle.std.proofs.Common.{not, sym, refl, subst, rules}
use Rattle.std.proofs.lemmas.Iterator.{YieldsList-from_slice}
use Rattle.std.proofs.lemmas.Iterator.Search.{position_from_yields_List}
use Rattle.gate.specs.Conditions.{Judges}
use Rattle.gate.proofs.Tables.{broken_at, told}
use Rattle.gate.proofs.fault.first_broken.Goals as goal

pub returns : goal.returns
returns g c p h =
    let is = broken_at p c.args.place c.args.elements.now _ (position_from_yields_List (λ b. not (p b)) _ _ c.position.result c.position.ensures.ran (YieldsList-from_slice c.args.elements.now c.iter.ensures.rest) (λ x b q k. (search rules, h x.now b (record { shown = x; shows = refl; says = search rules })))) in
    subst (λ o. Judges o c.map_or.result) (sym is) (told c.args.place c.position.result c.map_or.result c.map_or.ensures (λ i h. search rules))
