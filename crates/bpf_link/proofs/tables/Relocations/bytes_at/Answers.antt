use Rattle.std.proofs.Common.{◌≡◌, ◌<◌, ◌+◌, ◌-◌, ◌*◌, ◌/◌, ◌∙◌, List, ℕ, length, take, drop, get_or, sym, ap, arith}
use Rattle.std.proofs.lemmas.List.{get_or-take, get_or-drop}
use Rattle.bpf_link.specs.Layout.{relocation_entry}
use Rattle.bpf_link.specs.Tables.{relocations_in, relocation_at}
use Rattle.bpf_link.proofs.Lists.{below_length, below_at}
use Rattle.bpf_link.proofs.Pruning.{AreBytes, entry_same}
use Rattle.bpf_link.proofs.tables.Relocations.bytes_at.Goals as goal

inside : (bytes : List ℕ) (i : ℕ) → i < length (relocations_in bytes) → i < length bytes / 16
inside bytes i h = let size = below_length (λ i. relocation_entry bytes (16 * i)) (length bytes / 16) in omega (arith, size, h)

in_part : (bytes : List ℕ) (at n : ℕ) → n ≡ 16 → AreBytes (take n (drop at bytes)) 0 bytes at 16
in_part bytes at n size = λ k small.
    get_or-take n (drop at bytes) (0 + k) 0 (omega (arith, size, small)) ∙ get_or-drop at bytes (0 + k) 0 ∙ ap (λ i. get_or bytes i 0) (omega arith)

pub overflow_mul-result : goal.overflow_mul-result
overflow_mul-result c = let within = inside c.self.inside.bytes.now c.args.i (rw c.self.view_is c.requires) in omega (arith, within, c.ranges.i.fits)

pub overflow_mul-result-2 : goal.overflow_mul-result-2
overflow_mul-result-2 c = let within = inside c.self.inside.bytes.now c.args.i (rw c.self.view_is c.requires) in omega (arith, within, c.ranges.i.fits)

pub overflow_add-result : goal.overflow_add-result
overflow_add-result c = let within = inside c.self.inside.bytes.now c.args.i (rw c.self.view_is c.requires) in omega (arith, within, c.ranges.i.fits)

pub slice_bounds-result-end : goal.slice_bounds-result-end
slice_bounds-result-end c = let within = inside c.self.inside.bytes.now c.args.i (rw c.self.view_is c.requires) in omega (arith, within)

pub returns-clause-same : goal.returns-clause-same
returns-clause-same c =
    let bytes = c.self.inside.bytes.now in
    let within = inside bytes c.args.i (rw c.self.view_is c.requires) in
    entry_same (take (16 * c.args.i + 16 - 16 * c.args.i) (drop (16 * c.args.i) bytes)) bytes 0 (16 * c.args.i) (in_part bytes (16 * c.args.i) (16 * c.args.i + 16 - 16 * c.args.i) (omega arith))
    ∙ sym (below_at (λ i. relocation_entry bytes (16 * i)) (length bytes / 16) c.args.i _ within) ∙ ap (λ list. relocation_at list c.args.i) c.self.view_is
