-- No resting buy meets a resting sell: what goes, and what rests after its match, leaves it so.
use Rattle.std.proofs.Common.{◌≡◌, ◌-◌, true, false, List, [], ◌∷◌, ◌++◌, get_or, sym, ◌∙◌, arith}
use Rattle.std.specs.List.{All}
use Rattle.std.proofs.lemmas.Int.{ints}
use Rattle.std.proofs.lemmas.List.Elements.{All-push}
use Rattle.market.specs.declared.order.Order.{Order}
use Rattle.market.specs.Levels.{NoneWithin}
use Rattle.market.specs.Orders.{lot_book, quantity_of, stands}
use Rattle.market.specs.Prices.{opposite, good}
use Rattle.market.specs.Sessions.{Apart}
use Rattle.market.proofs.Places.{same_book_refl}
use Rattle.market.proofs.Sizes.{lot_book-sized}
use Rattle.market.proofs.Thinning.{Thins}

abbrev pub Uncrossed : List Order → Type 0
Uncrossed os = All (λ x. All (Apart x) os) os

pub uncrossed_thins : {os os' : List Order} → Thins os os' → Uncrossed os → Uncrossed os'
uncrossed_thins {os} {os'} thins u =
    thins.keeps (λ x. All (Apart x) os') (λ x k a i y at e. a i y at (sym (lot_book-sized x.lot (quantity_of x - k)) ∙ e))
    (λ i x at. thins.keeps (Apart (get_or os i x)) (λ y k h e. h (e ∙ lot_book-sized y.lot (quantity_of y - k))) (u i x at))

-- y is no order that o could trade with
abbrev Clear : Order → Order → Type 0
Clear o y = stands (lot_book o.lot) (opposite o.side) y ≡ true → good o.side y.price o.price ≡ false

clear_buy : (o y : Order) → Clear o y → Apart o y
clear_buy o y h w b s = grind (arith, ints, same_book_refl (lot_book o.lot))

clear_sell : (o y : Order) → Clear o y → Apart y o
clear_sell o y h w b s = grind (arith, ints, same_book_refl (lot_book o.lot))

apart_self : (o : Order) → Apart o o
apart_self o w b s = cc

-- one more order, with none to trade with
pub uncrossed_last : (o : Order) (os : List Order) → Uncrossed os → NoneWithin (lot_book o.lot) o.side o.price os → Uncrossed (os ++ o ∷ [])
uncrossed_last o os u c =
    All-push (λ x. All (Apart x) (os ++ o ∷ [])) os o (λ i x at. All-push (Apart (get_or os i x)) os o (u i x at) (clear_sell o (get_or os i x) (c i x at)))
    (All-push (Apart o) os o (λ i y at. clear_buy o (get_or os i y) (c i y at)) (apart_self o))
