use Rattle.std.proofs.Common.{◌<◌, ◌∷◌, refl, sym, ◌∙◌, arith}
use Rattle.bpf_origin.proofs.Turning.{entry_of_last, turn_unhit, turn_no_lines, turn_told}
use Rattle.bpf_origin.proofs.origin.take_turn.Goals as goal

pub returns-in_default-clause-takes : goal.returns-in_default-clause-takes
returns-in_default-clause-takes g c = λ r h f stands.
    let was = c.newest.ensures (record { history = r ∷ h; ahead = f }) stands in
    let none = c.in_default.is in
    cc

pub returns-then-not-are_hit-clause-takes : goal.returns-then-not-are_hit-clause-takes
returns-then-not-are_hit-clause-takes g c = λ r h f stands.
    let is = entry_of_last _ _ r h c.in-Some.is (c.newest.ensures (record { history = r ∷ h; ahead = f }) stands) in
    let wrote = rw c.machine.ensures at c.written-wrote.ensures.items in
    let back = c.take_back-taken.ensures.back (record { history = r ∷ h; ahead = f }) stands in
    turn_unhit g.P.Past.state g.P.Past.follows g.W.Write.contents c.args.question r h f c.args.moves c.args.lines c.args.wanted.now _ (g.P.Past.state c.args.history.now) c.take_back-taken.new.self _ _ _ c.in-Some.entry c.written-wrote.result.items
    (let d = c.in-Some.entry-is in cc) wrote (rw c.as_slice.ensures.value at (sym c.are_hit.ensures ∙ c.if-not-are_hit.true))
    (rw c.machine-then-not-are_hit.ensures at c.pass.ensures) back.1 c.go_on-then-not-are_hit.ensures

pub returns-then-lines-eq0-clause-takes : goal.returns-then-lines-eq0-clause-takes
returns-then-lines-eq0-clause-takes g c = λ r h f stands.
    let is = entry_of_last _ _ r h c.in-Some.is (c.newest.ensures (record { history = r ∷ h; ahead = f }) stands) in
    let wrote = rw c.machine.ensures at c.written-wrote.ensures.items in
    turn_no_lines g.P.Past.state g.P.Past.follows g.W.Write.contents c.args.question r h f c.args.moves c.args.lines c.args.wanted.now _ (g.P.Past.state c.args.history.now) c.args.history.now _ _ _ _ _ c.in-Some.entry c.written-wrote.result.items
    (let d = c.in-Some.entry-is in cc) wrote (rw c.as_slice.ensures.value at (sym c.are_hit.ensures ∙ c.if-not-are_hit.false)) c.if-lines-eq0.true
    (record { at = refl; on = stands }) c.put-last.ensures c.cut.ensures

pub returns-clause-takes : goal.returns-clause-takes
returns-clause-takes g c = λ r h f stands.
    let is = entry_of_last _ _ r h c.in-Some.is (c.newest.ensures (record { history = r ∷ h; ahead = f }) stands) in
    let wrote = rw c.machine.ensures at c.written-wrote.ensures.items in
    let nonzero = c.if-lines-eq0.false in
    let some : 0 < c.args.lines = omega arith in
    turn_told g.P.Past.state g.P.Past.follows g.W.Write.contents c.args.question r h f c.args.moves c.args.lines c.args.wanted.now c.pass-2.new.wanted c.tell_rest.new.wanted (g.P.Past.state c.args.history.now) c.tell_rest.new.history _ _ _ _ _ c.tell_rest.result c.in-Some.entry c.written-wrote.result.items
    (let d = c.in-Some.entry-is in cc) wrote (rw c.as_slice.ensures.value at (sym c.are_hit.ensures ∙ c.if-not-are_hit.false)) some
    (rw (c.machine-2.ensures, c.as_slice-2.ensures.value) at c.put_head-headed.ensures) (rw c.machine-3.ensures at c.pass-2.ensures)
    (c.tell_rest.ensures.back r h f stands) (c.tell_rest.ensures.tells r h f stands) c.tell_rest.ensures.turn.lines c.tell_rest.ensures.turn.one
