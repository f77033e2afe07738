use Rattle.std.proofs.Common.{◌<◌, ◌*◌, ◌/◌, ◌∙◌, List, ℕ, length, sym, ap, arith}
use Rattle.bpf_link.specs.Layout.{symbol_entry}
use Rattle.bpf_link.specs.Tables.{symbols_in, symbol_at}
use Rattle.bpf_link.proofs.Lists.{below_length, below_at}
use Rattle.bpf_link.proofs.tables.Symbols.at.Goals as goal

inside : (bytes : List ℕ) (i : ℕ) → i < length (symbols_in bytes) → i < length bytes / 24
inside bytes i h = let size = below_length (λ i. symbol_entry bytes (24 * i)) (length bytes / 24) in omega (arith, size, h)

pub overflow_mul-i : goal.overflow_mul-i
overflow_mul-i c =
    let within = inside c.self.inside.bytes.now c.args.i (rw c.self.view_is c.requires) in
    omega (arith, within, c.ranges.i.fits)

pub symbol_entry-requires : goal.symbol_entry-requires
symbol_entry-requires c = let within = inside c.self.inside.bytes.now c.args.i (rw c.self.view_is c.requires) in omega (arith, within)

pub returns : goal.returns
returns c =
    let bytes = c.self.inside.bytes.now in
    let within = inside bytes c.args.i (rw c.self.view_is c.requires) in
    c.symbol_entry.ensures ∙ sym (below_at (λ i. symbol_entry bytes (24 * i)) (length bytes / 24) c.args.i _ within) ∙ ap (λ list. symbol_at list c.args.i) c.self.view_is
