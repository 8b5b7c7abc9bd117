use Rattle.std.proofs.Common.{◌+◌, ◌-◌, ◌≤◌, List, length, vec_items, sym, refl, ap, ◌∙◌, arith, rules}
use Rattle.std.specs.Option.{is_some}
use Rattle.market.specs.declared.acceptance.Acceptance.TheVariants.{Entered}
use Rattle.market.specs.declared.leg.Leg.{Leg}
use Rattle.market.specs.declared.order.Order.{Order}
use Rattle.market.specs.declared.refusal.Refusal.TheVariants.{NumbersSpent}
use Rattle.market.specs.Amending.{Amends}
use Rattle.market.specs.BookCalls.{BookState}
use Rattle.market.specs.Orders.{anew}
use Rattle.market.specs.Rows.{blank}
use Rattle.book.specs.Closing.{book_state}
use Rattle.book.specs.Settling.{ArrivedAt, TurnedAway}
use Rattle.book.specs.Table.{table}
use Rattle.book.proofs.Amending.{amends_in_place, amends_spent, amends_room, amends_anew}
use Rattle.book.proofs.Closing.{follows_refused, follows_closed}
use Rattle.book.proofs.Finding.{own_is_found}
use Rattle.book.proofs.Reports.{blank_long}
use Rattle.book.proofs.book.Book.amend.Goals as goal

pub unwrap-i-requires : goal.unwrap-i-requires
unwrap-i-requires g c = ap is_some c.find_own.ensures ∙ sym (own_is_found c.args.id.participant c.args.id.number (vec_items c.args.self.now.resting.inner.orders)) ∙ c.requires.own

pub returns-in_default : goal.returns-in_default
returns-in_default g c =
    let m = book_state c.args.self.now in
    let shares = g.R.AllocationRule.shares c.args.rule.now in
    let cs : List (List Leg) = table c.args.combinations.now in
    let p = c.args.id.participant in
    let n = c.args.id.number in
    let q = c.args.quantity in
    let r = c.args.price in
    let s = c.start-told in
    let v = c.revise in
    let os₀ : List Order = vec_items c.copy_from.new.self.inner.orders in
    let os : List Order = vec_items v.new.self.inner.orders in
    let w = c.round in
    let os' : List Order = vec_items w.new.self.orders.inner.orders in
    follows_closed (Amends shares cs m p n q r) m (length c.args.report.now) (Entered n 0) os' m.next w.new.told _ c.close.new.told _ _
    s.result s.ensures.blank (w.ensures.more.report.long ∙ v.ensures.more.report.long) (search rules)
    (amends_in_place shares cs m p n q r c.find_own.result c.unwrap-i.result c.find_own.ensures c.unwrap-i.ensures os₀ c.copy_from.ensures s.result s.ensures.holds os v.new.told c.in_default.ensures os' w.new.told w.ensures)
    c.close.ensures

pub returns-then-number-gt-LAST_NUMBER : goal.returns-then-number-gt-LAST_NUMBER
returns-then-number-gt-LAST_NUMBER g c =
    let m = book_state c.args.self.now in
    let shares = g.R.AllocationRule.shares c.args.rule.now in
    let cs : List (List Leg) = table c.args.combinations.now in
    let p = c.args.id.participant in
    let n = c.args.id.number in
    let q = c.args.quantity in
    let r = c.args.price in
    let s = c.start-told in
    let v = c.revise in
    let os₀ : List Order = vec_items c.copy_from.new.self.inner.orders in
    let os : List Order = vec_items v.new.self.inner.orders in
    follows_refused (Amends shares cs m p n q r) m (length c.args.report.now) NumbersSpent c.refuse.result c.refuse.new.report _ c.refuse.ensures.answer
    (amends_spent shares cs m p n q r c.find_own.result c.unwrap-i.result c.find_own.ensures c.unwrap-i.ensures os₀ c.copy_from.ensures s.result s.ensures.holds os v.new.told c.in-Some.order c.in-Some.ensures c.if-number-gt-LAST_NUMBER.true)
    (search rules) (c.refuse.ensures.blank ∙ ap blank (v.ensures.more.report.long ∙ blank_long s.result.rows.now (length c.args.report.now) s.ensures.blank))

pub returns-in_err-at : goal.returns-in_err-at
returns-in_err-at g c =
    let m = book_state c.args.self.now in
    let shares = g.R.AllocationRule.shares c.args.rule.now in
    let cs : List (List Leg) = table c.args.combinations.now in
    let p = c.args.id.participant in
    let n = c.args.id.number in
    let q = c.args.quantity in
    let r = c.args.price in
    let s = c.start-told in
    let v = c.revise in
    let os₀ : List Order = vec_items c.copy_from.new.self.inner.orders in
    let os : List Order = vec_items v.new.self.inner.orders in
    let o = c.in-Some.order in
    let e = c.in_err-at.field-0.0 in
    let few : length m.orders ≤ 256 = omega (arith, c.args.self.now.resting.few, c.args.self.now.resting.inner.orders.ok.0) in
    let between : BookState = record { orders = os; next = m.next } in
    let full : TurnedAway shares cs 1 between (anew o q r) v.new.told c.arrive.new.told e = c.in_err-at.ensures.arrives.arrives between (anew o q r) refl c.anew-order.ensures refl in
    absurd (amends_room shares cs m p n q r c.find_own.result c.unwrap-i.result c.find_own.ensures c.unwrap-i.ensures os₀ c.copy_from.ensures s.result s.ensures.holds os v.new.told o c.in-Some.ensures e c.arrive.new.told few full)

pub returns : goal.returns
returns g c =
    let m = book_state c.args.self.now in
    let shares = g.R.AllocationRule.shares c.args.rule.now in
    let cs : List (List Leg) = table c.args.combinations.now in
    let p = c.args.id.participant in
    let n = c.args.id.number in
    let q = c.args.quantity in
    let r = c.args.price in
    let s = c.start-told in
    let v = c.revise in
    let os₀ : List Order = vec_items c.copy_from.new.self.inner.orders in
    let os : List Order = vec_items v.new.self.inner.orders in
    let a = c.arrive in
    let w = c.round-2 in
    let o = c.in-Some.order in
    let at = c.in_ok-at.at in
    let os' : List Order = vec_items a.new.self.orders.inner.orders in
    let os'' : List Order = vec_items w.new.self.orders.inner.orders in
    let few : m.next ≤ 99999 = omega (arith, c.if-number-gt-LAST_NUMBER.false) in
    let between : BookState = record { orders = os; next = m.next } in
    let new : ArrivedAt shares cs 1 between (anew o q r) v.new.told a.new.told at os' = c.in_ok-at.ensures.arrives.arrives between (anew o q r) refl c.anew-order.ensures refl in
    follows_closed (Amends shares cs m p n q r) m (length c.args.report.now) (Entered m.next (q - at.left)) os'' (m.next + 1) w.new.told _ c.close-2.new.told _ _
    s.result s.ensures.blank (w.ensures.more.report.long ∙ new.more.report.long ∙ v.ensures.more.report.long) (search rules)
    (amends_anew shares cs m p n q r c.find_own.result c.unwrap-i.result c.find_own.ensures c.unwrap-i.ensures os₀ c.copy_from.ensures s.result s.ensures.holds os v.new.told o c.in-Some.ensures at os' a.new.told os'' w.new.told few new w.ensures)
    c.close-2.ensures
