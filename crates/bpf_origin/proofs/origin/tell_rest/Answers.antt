use Rattle.std.proofs.Common.{◌∷◌, length, refl, ap, arith}
use Rattle.bpf_origin.proofs.Turning.{step_of, rest_cut, rest_on}
use Rattle.bpf_origin.specs.Wanted.{most_places, want_parts}
use Rattle.bpf_origin.proofs.Wanting.{all_fit, some_left}
use Rattle.bpf_origin.proofs.origin.tell_rest.Goals as goal

pub returns-in_default-clause-back : goal.returns-in_default-clause-back
returns-in_default-clause-back g c = λ r h f stands.
    let was = (c.take_back.ensures.back (record { history = r ∷ h; ahead = f }) stands).0 in
    let none = c.in_default.is in
    cc

pub returns-in_default-clause-tells : goal.returns-in_default-clause-tells
returns-in_default-clause-tells g c = λ r h f stands.
    let was = (c.take_back.ensures.back (record { history = r ∷ h; ahead = f }) stands).0 in
    let none = c.in_default.is in
    cc

pub returns-then-not-want_parts-clause-back : goal.returns-then-not-want_parts-clause-back
returns-then-not-want_parts-clause-back g c = λ r h f stands.
    let back = c.take_back.ensures.back (record { history = r ∷ h; ahead = f }) stands in
    back.1

pub returns-then-not-want_parts-clause-tells : goal.returns-then-not-want_parts-clause-tells
returns-then-not-want_parts-clause-tells g c = λ r h f stands.
    let back = c.take_back.ensures.back (record { history = r ∷ h; ahead = f }) stands in
    let step = step_of _ c.in-Some.taken r c.in-Some.is back.0 in
    let read = rw c.machine.ensures at (c.read_by-read.ensures r.move step) in
    rest_cut g.W.Write.contents c.args.question r c.args.wanted.now c.want_parts.new.self _ _ _ _ _ _ c.cut.result (g.P.Past.state c.take_back.new.self) c.read_by-read.result.items
    back.1.at read (rw (c.machine-2.ensures, c.as_slice.ensures.value) at (c.put_tail-told.ensures r.move step))
    (some_left most_places (want_parts c.args.wanted.now c.read_by-read.result.items) (rw c.as_slice-2.ensures.value at c.if-not-want_parts.ensures.all)) c.put-last.ensures c.cut.ensures

pub returns-clause-back : goal.returns-clause-back
returns-clause-back g c = λ r h f stands.
    let back = c.take_back.ensures.back (record { history = r ∷ h; ahead = f }) stands in
    back.1

pub returns-clause-tells : goal.returns-clause-tells
returns-clause-tells g c = λ r h f stands.
    let back = c.take_back.ensures.back (record { history = r ∷ h; ahead = f }) stands in
    let step = step_of _ c.in-Some.taken r c.in-Some.is back.0 in
    let read = rw c.machine.ensures at (c.read_by-read.ensures r.move step) in
    let within = rw c.as_slice-2.ensures.value at (c.if-not-want_parts.ensures.all.0 refl) in
    let wants = all_fit most_places (want_parts c.args.wanted.now c.read_by-read.result.items) c.want_parts.new.self (rw c.as_slice-2.ensures.value at c.if-not-want_parts.ensures.value) within in
    rest_on g.W.Write.contents c.args.question r c.args.wanted.now c.want_parts.new.self _ _ _ _ _ c.go_on-2.result (g.P.Past.state c.take_back.new.self) c.read_by-read.result.items
    back.1.at read (rw (c.machine-2.ensures, c.as_slice.ensures.value) at (c.put_tail-told.ensures r.move step))
    wants (omega (arith, ap length wants, within)) c.go_on-2.ensures
