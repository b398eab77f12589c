use Rattle.std.proofs.Common.{arith}
use Rattle.fx_net.proofs.Sources.{input_index, input_end, first_end, row_end}
use Rattle.fx_net.proofs.layout.Layout.read.Goals as goal

pub bounds-self-from : goal.bounds-self-from
bounds-self-from c =
    let p = c.args.self.now.places in
    let h = input_index c.args.self.now.eqs.now c.args.self.now.inputs c.args.self.now.first
    c.args.self.now.rows p c.args.from c.args.lag c.requires c.in-In-2.j c.in-In-2.is in
    let k = p.inputs_high in
    omega arith

pub overflow_add-result : goal.overflow_add-result
overflow_add-result c =
    let p = c.args.self.now.places in
    let h = input_end c.args.self.now.eqs.now c.args.self.now.inputs c.args.self.now.first c.args.self.now.rows
    p c.args.from c.args.lag c.requires c.in-In-2.j c.in-In-2.is in
    let k = rw (← c.from-in-In-2.ensures) at h in
    omega arith

pub overflow_add-result-in-Row : goal.overflow_add-result-in-Row
overflow_add-result-in-Row c =
    let p = c.args.self.now.places in
    let h = first_end c.args.self.now.eqs.now c.args.self.now.inputs c.args.self.now.first c.args.self.now.rows
    p c.args.from c.args.lag c.requires c.in-Row.j c.in-Row.is in
    omega arith

pub overflow_add-result-in-Row-2 : goal.overflow_add-result-in-Row-2
overflow_add-result-in-Row-2 c =
    let p = c.args.self.now.places in
    let h = first_end c.args.self.now.eqs.now c.args.self.now.inputs c.args.self.now.first c.args.self.now.rows
    p c.args.from c.args.lag c.requires c.in-Row-2.j c.in-Row-2.is in
    omega arith

pub overflow_add-result-in-Row-3 : goal.overflow_add-result-in-Row-3
overflow_add-result-in-Row-3 c =
    let p = c.args.self.now.places in
    let h = row_end c.args.self.now.eqs.now c.args.self.now.inputs c.args.self.now.first c.args.self.now.rows p
    c.args.from c.args.lag c.requires c.in-Row-3.j c.in-Row-3.is in
    let k = rw (← c.from-in-Row-3.ensures) at h in
    omega arith
