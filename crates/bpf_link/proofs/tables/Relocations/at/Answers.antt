use Rattle.std.proofs.Common.{◌<◌, ◌*◌, ◌/◌, ◌∙◌, List, ℕ, length, sym, ap, arith}
use Rattle.bpf_link.specs.Layout.{relocation_entry}
use Rattle.bpf_link.specs.Tables.{relocations_in, relocation_at}
use Rattle.bpf_link.proofs.Lists.{below_length, below_at}
use Rattle.bpf_link.proofs.tables.Relocations.at.Goals as goal

inside : (bytes : List ℕ) (i : ℕ) → i < length (relocations_in bytes) → i < length bytes / 16
inside bytes i h = let size = below_length (λ i. relocation_entry bytes (16 * i)) (length bytes / 16) in omega (arith, size, h)

pub overflow_mul-i : goal.overflow_mul-i
overflow_mul-i c =
    let within = inside c.self.inside.bytes.now c.args.i (rw c.self.view_is c.requires) in
    omega (arith, within, c.ranges.i.fits)

pub relocation_entry-requires : goal.relocation_entry-requires
relocation_entry-requires c = let within = inside c.self.inside.bytes.now c.args.i (rw c.self.view_is c.requires) in omega (arith, within)

pub returns : goal.returns
returns c =
    let bytes = c.self.inside.bytes.now in
    let within = inside bytes c.args.i (rw c.self.view_is c.requires) in
    c.relocation_entry.ensures ∙ sym (below_at (λ i. relocation_entry bytes (16 * i)) (length bytes / 16) c.args.i _ within) ∙ ap (λ list. relocation_at list c.args.i) c.self.view_is
