use Rattle.std.proofs.Common.{◌≡◌, ◌∙◌, [], sym, arith}
use Rattle.std.specs.Prelude.{Some}
use Rattle.std.proofs.lemmas.List.{append-nil}
use Rattle.bpf_entries.specs.Texts.{kind, text}
use Rattle.bpf_entries.proofs.entry.Entry.read.Goals as goal
use Rattle.bpf_entries.proofs.entry.Entry.read.Goals.{then-kind-lt1-via-then-kind-lt1, then-kind-lt1-via-else-kind-lt1+then-kind-gt12}
use Rattle.bpf_entries.proofs.Texts.{kind_high, read_as}

pub returns-then-kind-lt1 : goal.returns-then-kind-lt1
returns-then-kind-lt1 c = λ e mark fits h.
    let is : c.kind_of-kind.result ≡ kind e = c.kind_of-kind.ensures e mark [] (h ∙ sym (append-nil (text e mark))) in
    let low = (kind_high e).0 in
    let high = (kind_high e).1 in
    elim c.then-kind-lt1.branch [
      | then-kind-lt1-via-then-kind-lt1 w ↦ absurd (omega (arith, is, low, w.if-kind-lt1))
      | then-kind-lt1-via-else-kind-lt1+then-kind-gt12 w ↦ absurd (omega (arith, is, high, w.if-kind-gt12))
    ]

pub returns-in-Some : goal.returns-in-Some
returns-in-Some c = λ e mark fits h.
    let whole = h ∙ sym (append-nil (text e mark)) in
    let is : c.kind_of-kind.result ≡ kind e = c.kind_of-kind.ensures e mark [] whole in
    let marked : c.is_marked.result ≡ mark = c.is_marked.ensures e mark [] whole in
    let found : c.entry_of_kind.result ≡ Some e = read_as e mark c.kind_of-kind.result c.args.bytes.now c.entry_of_kind.result fits h is c.entry_of_kind.ensures in
    let told = c.in-Some.is in
    cc

pub returns-in-None : goal.returns-in-None
returns-in-None c = λ e mark fits h.
    let whole = h ∙ sym (append-nil (text e mark)) in
    let is : c.kind_of-kind.result ≡ kind e = c.kind_of-kind.ensures e mark [] whole in
    let found : c.entry_of_kind.result ≡ Some e = read_as e mark c.kind_of-kind.result c.args.bytes.now c.entry_of_kind.result fits h is c.entry_of_kind.ensures in
    let told = c.in-None.is in
    absurd cc
