use Rattle.std.proofs.Common.{Some, ℕ, List}
use Rattle.bpf_load.specs.Targets.{IsObjectOf, LinksTo}
use Rattle.bpf_load.specs.declared.loading.LinkedObject.{LinkedObject}
use Rattle.bpf_load.specs.declared.target.SourceKind.{SourceKind}
use Rattle.bpf_load.specs.declared.target.SourceKind.TheVariants.{Listing, Object, Words}
use Rattle.bpf_load.specs.declared.target.Target.{Target}
use Rattle.bpf_load.proofs.program.load_again.Goals as goal

-- an object that is known is FILE's
links-to : (kind : SourceKind) (target : Target) (file : List ℕ) (linked : LinkedObject) → IsObjectOf kind target file (Some linked)
    → LinksTo target file linked
links-to Object target file linked is = is
links-to Listing target file linked is = absurd (cc is)
links-to Words target file linked is = absurd (cc is)

pub of_linked-requires-clause-linked : goal.of_linked-requires-clause-linked
of_linked-requires-clause-linked c =
    links-to c.args.target.now.kind c.args.target.now c.args.file.now c.in-Some.linked.now (rw c.in-Some.is at c.requires)
