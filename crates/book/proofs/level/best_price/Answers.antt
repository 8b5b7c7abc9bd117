use Rattle.std.proofs.Common.{◌≡◌, ◌∙◌, Bool, List, map, filter, sym, subst, ap, rules}
use Rattle.market.specs.declared.order.Order.{Order}
use Rattle.market.specs.Orders.{stands}
use Rattle.market.specs.Prices.{opposite}
use Rattle.market.specs.Fills.{BestLevel}
use Rattle.book.specs.Best.{better, best_among}
use Rattle.book.proofs.Levels.{best_of, prices_through, best_reduced, best_found}
use Rattle.book.proofs.level.best_price.Goals as goal

pub returns : goal.returns
returns c =
    let test : Order → Bool = stands c.args.book (opposite c.args.side) in
    let run = c.reduce.ensures.runs in
    let prices = run.0 in
    let mapped = c.map.ensures.runs prices prices.seen run.1 in
    let kept = c.filter.ensures.runs mapped.0 mapped.0.seen mapped.1 in
    let read = kept.0 in
    let all = c.iter.ensures.runs read read.seen in
    let to_prices : prices.items ≡ map (λ o. o.now.price) mapped.0.items = mapped.2.3 (λ o. o.now.price) (λ x y f k. search rules) in
    let to_kept : mapped.0.items ≡ filter (λ o. test o.now) read.items = kept.2.4 (λ o. test o.now) (λ x b f k. search rules) in
    let to_orders : map (λ o. o.now) read.items ≡ c.args.orders.now = all.4 (kept.2.0 ∙ mapped.2.0 ∙ run.2) ∙ ap (λ s. s.rest.now) kept.1 ∙ c.iter.ensures.rest in
    let scanned : c.reduce.result ≡ best_of c.args.book c.args.side c.args.orders.now =
    best_reduced c.args.side prices.items prices.len c.reduce.result _ prices.long run.3 (λ y h. (h.1.0, h.1.1, h.1.2, h.1.3 (better c.args.side) (λ x z r f k. search rules)))
    ∙ ap (best_among c.args.side) (to_prices ∙ ap (map (λ o. o.now.price)) to_kept ∙ prices_through test read.items ∙ ap (λ (os : List Order). map (λ o. o.price) (filter test os)) to_orders) in
    subst (BestLevel c.args.book c.args.side c.args.orders.now) (sym scanned) (best_found c.args.book c.args.side c.args.orders.now)
