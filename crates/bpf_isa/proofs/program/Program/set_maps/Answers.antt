use Rattle.std.proofs.Common.{sym, subst}
use Rattle.bpf_isa.specs.Checker.{IsAccepted}
use Rattle.bpf_isa.specs.Programs.{Checked}
use Rattle.bpf_isa.proofs.OtherMaps.{with_other_maps}
use Rattle.bpf_isa.proofs.program.Program.set_maps.Goals as goal

pub invariant_of-self : goal.invariant_of-self
invariant_of-self c = with_other_maps _ _ c.self.invariant c.len-few.ensures.fits (subst (λ (p : Checked). IsAccepted p.bytes c.args.maps) (sym c.self.view_is) c.requires)
