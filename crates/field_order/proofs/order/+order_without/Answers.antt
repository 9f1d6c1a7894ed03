use Rattle.std.proofs.Common.{◌≢◌, ◌/◌, ◌∙◌, arith, sym}
use Rattle.field_order.proofs.Digits.{first_out, later_out, fields_later, apart_later, has_later, room, some_digit}
use Rattle.field_order.proofs.order.+order_without.Goals as goal

pub returns-then-first-from : goal.returns-then-first-from
returns-then-first-from t c =
    first_out c.args.count c.args.order c.unit-unit.result c.args.field c.unit-unit.ensures.value c.requires.fields c.requires.apart c.requires.has (c.if-first-from.true ∙ c.from.ensures)

pub order_without-requires : goal.order_without-requires
order_without-requires t c =
    let unit = c.unit-unit.ensures.value in
    let r = c.requires in
    let other : c.args.order / c.unit-unit.result ≢ c.args.field = λ e. c.if-first-from.false (e ∙ sym c.from.ensures) in
    let has = has_later c.args.count c.args.order c.unit-unit.result c.args.field unit r.fields r.apart r.has other in
    let fields = fields_later c.args.count c.args.order c.unit-unit.result c.args.field unit r.fields r.apart r.has in
    let apart = apart_later c.args.count c.args.order c.unit-unit.result c.args.field unit r.fields r.apart r.has in
    (omega (arith, c.decreases, some_digit c.args.field c.args.count c.args.order r.has), (omega (arith, r.count), (fields, (apart, has))))

pub returns : goal.returns
returns t c =
    let other : c.args.order / c.unit-unit.result ≢ c.args.field = λ e. c.if-first-from.false (e ∙ sym c.from.ensures) in
    later_out c.args.count c.args.order c.unit-unit.result c.args.field c.unit-unit.ensures.value c.requires.fields c.requires.apart c.requires.has other c.order_without.result c.order_without.ensures

pub overflow_add-result : goal.overflow_add-result
overflow_add-result t c =
    let other : c.args.order / c.unit-unit.result ≢ c.args.field = λ e. c.if-first-from.false (e ∙ sym c.from.ensures) in
    let same = later_out c.args.count c.args.order c.unit-unit.result c.args.field c.unit-unit.ensures.value c.requires.fields c.requires.apart c.requires.has other c.order_without.result c.order_without.ensures in
    omega (arith, same, room c.args.count c.args.order c.unit-unit.result c.args.field c.unit-unit.ensures.value c.requires.fields c.requires.apart c.requires.has c.requires.count)
