use Rattle.std.proofs.Common.{◌≡◌, ℕ, List, Bool, Option}
use Rattle.bpf_link.specs.Missing.{others_in}
use Rattle.bpf_link.specs.declared.fault.LinkFault.TheVariants.{Helper}
use Rattle.bpf_link.specs.declared.sources.Source.{Source}
use Rattle.bpf_link.proofs.linker.helper_fault.Goals as goal

-- a helper, where it comes from, and the others, by what they are
same : (slot : ℕ) {a b : ℕ} {s t : Option Source} (words : List ℕ) {others : List Bool} → a ≡ b → s ≡ t → others ≡ others_in words a
    → Helper slot a s others ≡ Helper slot b t (others_in words b)
same slot words one two three = cc

pub returns : goal.returns
returns c = same c.args.slot c.args.words.now c.u32_at-helper.ensures c.source_of.ensures c.others_in.ensures
