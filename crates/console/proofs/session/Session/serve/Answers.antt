use Rattle.std.proofs.Common.{unwrap_or, sym, ap, ◌∙◌}
use Rattle.std.proofs.lemmas.Result.{on_ok_weaker, on_err_weaker}
use Rattle.market.specs.declared.product.Product.TheVariants.{Futures, Options}
use Rattle.console.proofs.Breaking.{refused_any}
use Rattle.console.proofs.Serves.{broken_at_first, none_first, from_first}
use Rattle.console.proofs.session.Session.serve.Goals as goal

pub returns-in_err-next_line-clause-failed : goal.returns-in_err-next_line-clause-failed
returns-in_err-next_line-clause-failed g c = refused_any c.from_residual.result _ (λ u p e l. broken_at_first g.W.Wire.log c.args.self.now u p e l c.next_line.new.wire c.in_err-next_line.ensures.failed)

pub returns-in-None-clause-served : goal.returns-in-None-clause-served
returns-in-None-clause-served g c = λ u p e l. none_first g.W.Wire.log c.args.self.now u p e l g.W.Wire.over c.in_ok-next_line.was _ _ c.next_line.follows.holds-at-none c.in-None.is

pub returns-in-Futures-clause-served : goal.returns-in-Futures-clause-served
returns-in-Futures-clause-served g c =
    let named = sym c.in-Futures.is ∙ c.unwrap_or.ensures ∙ ap (λ o. unwrap_or o Futures) c.product_named.ensures in
    on_ok_weaker c.serve_under.result (λ f u p e l. from_first g.W.Wire.log c.args.self.now u p e l g.W.Wire.over c.in_ok-next_line.was _ _ c.next_line.follows.holds-at-none c.args.self.now.heap c.in-Some.line Futures Futures _ c.in-Some.is named f) c.serve_under.ensures.served

pub returns-in-Futures-clause-failed : goal.returns-in-Futures-clause-failed
returns-in-Futures-clause-failed g c =
    let named = sym c.in-Futures.is ∙ c.unwrap_or.ensures ∙ ap (λ o. unwrap_or o Futures) c.product_named.ensures in
    on_err_weaker c.serve_under.result (λ f u p e l. from_first g.W.Wire.log c.args.self.now u p e l g.W.Wire.over c.in_ok-next_line.was _ _ c.next_line.follows.holds-at-none c.args.self.now.heap c.in-Some.line Futures Futures _ c.in-Some.is named f) c.serve_under.ensures.failed

pub returns-in-Options-clause-served : goal.returns-in-Options-clause-served
returns-in-Options-clause-served g c =
    let named = sym c.in-Options.is ∙ c.unwrap_or.ensures ∙ ap (λ o. unwrap_or o Futures) c.product_named.ensures in
    on_ok_weaker c.serve_under-in-Options.result (λ f u p e l. from_first g.W.Wire.log c.args.self.now u p e l g.W.Wire.over c.in_ok-next_line.was _ _ c.next_line.follows.holds-at-none c.args.self.now.heap c.in-Some.line Options Futures _ c.in-Some.is named f) c.serve_under-in-Options.ensures.served

pub returns-in-Options-clause-failed : goal.returns-in-Options-clause-failed
returns-in-Options-clause-failed g c =
    let named = sym c.in-Options.is ∙ c.unwrap_or.ensures ∙ ap (λ o. unwrap_or o Futures) c.product_named.ensures in
    on_err_weaker c.serve_under-in-Options.result (λ f u p e l. from_first g.W.Wire.log c.args.self.now u p e l g.W.Wire.over c.in_ok-next_line.was _ _ c.next_line.follows.holds-at-none c.args.self.now.heap c.in-Some.line Options Futures _ c.in-Some.is named f) c.serve_under-in-Options.ensures.failed
