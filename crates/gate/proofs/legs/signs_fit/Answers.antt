use Rattle.std.proofs.Common.{◌≡◌, not, ◌&&◌, sym, ap, ◌∙◌, subst, rules}
use Rattle.std.specs.List.{list_any}
use Rattle.std.proofs.lemmas.Iterator.{YieldsList-from_slice}
use Rattle.std.proofs.lemmas.Iterator.Search.{any_from_yields_List}
use Rattle.market.specs.declared.product.Product.{Product}
use Rattle.market.specs.Combinations.{is_minus, signs_fit}
use Rattle.gate.proofs.legs.signs_fit.Goals as goal

pub returns-then-any : goal.returns-then-any
returns-then-any c =
    let plus : c.any.result ≡ list_any (λ l. not (is_minus l)) c.args.legs.now = any_from_yields_List (λ l. not (is_minus l)) _ _ _ c.any.ensures.ran (YieldsList-from_slice c.args.legs.now c.iter.ensures.rest) (λ x b q k. search rules) in
    let minus : c.any-then-any.result ≡ list_any is_minus c.args.legs.now = any_from_yields_List is_minus _ _ _ c.any-then-any.ensures.ran (YieldsList-from_slice c.args.legs.now c.iter-then-any.ensures.rest) (λ x b q k. search rules) in
    subst (λ (p : Product). c.any-then-any.result ≡ signs_fit p c.args.legs.now) (sym c.in-Futures.is) (minus ∙ ap (λ t. t && list_any is_minus c.args.legs.now) (sym c.if-any.true ∙ plus))

pub returns-else-any : goal.returns-else-any
returns-else-any c =
    let plus : c.any.result ≡ list_any (λ l. not (is_minus l)) c.args.legs.now = any_from_yields_List (λ l. not (is_minus l)) _ _ _ c.any.ensures.ran (YieldsList-from_slice c.args.legs.now c.iter.ensures.rest) (λ x b q k. search rules) in
    subst (λ (p : Product). c.any.result ≡ signs_fit p c.args.legs.now) (sym c.in-Futures.is) (c.if-any.false ∙ ap (λ t. t && list_any is_minus c.args.legs.now) (sym c.if-any.false ∙ plus))
