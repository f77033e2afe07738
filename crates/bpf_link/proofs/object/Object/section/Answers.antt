use Rattle.std.proofs.Common.{◌≡◌, ◌<◌, ◌+◌, ◌*◌, ◌∙◌, List, ℕ, length, sym, ap, subst, arith}
use Rattle.bpf_link.specs.Layout.{section_header}
use Rattle.bpf_link.specs.Objects.{Elf, elf, section_at}
use Rattle.bpf_link.proofs.Lists.{below_length, below_at}
use Rattle.bpf_link.proofs.object.Object.section.Goals as goal

inside : (bytes : List ℕ) (at count names i : ℕ) (object : Elf) → elf bytes at count names ≡ object → i < length object.sections → i < count
inside bytes at count names i object e h =
    let size = below_length (λ i. section_header bytes (at + 64 * i)) count in
    let here : i < length (elf bytes at count names).sections = subst (λ object. i < length object.sections) (sym e) h in
    omega (arith, size, here)

pub overflow_mul-i : goal.overflow_mul-i
overflow_mul-i c =
    let o = c.self.inside in
    let within = inside o.bytes.now o.at o.count o.names c.args.i _ c.self.view_is c.requires in
    omega (arith, within, c.self.invariant.table, c.ranges.i.fits)

pub overflow_add-self-inside : goal.overflow_add-self-inside
overflow_add-self-inside c =
    let o = c.self.inside in
    let within = inside o.bytes.now o.at o.count o.names c.args.i _ c.self.view_is c.requires in
    omega (arith, within, c.self.invariant.table)

pub section_header-requires : goal.section_header-requires
section_header-requires c =
    let o = c.self.inside in
    let within = inside o.bytes.now o.at o.count o.names c.args.i _ c.self.view_is c.requires in
    omega (arith, within, c.self.invariant.table)

pub returns : goal.returns
returns c =
    let o = c.self.inside in
    let within = inside o.bytes.now o.at o.count o.names c.args.i _ c.self.view_is c.requires in
    c.section_header.ensures
    ∙ sym (below_at (λ i. section_header o.bytes.now (o.at + 64 * i)) o.count c.args.i _ within)
    ∙ ap (λ object. section_at object c.args.i) c.self.view_is
