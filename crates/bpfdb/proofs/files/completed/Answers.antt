use Rattle.std.proofs.Common.{◌≡◌, ◌++◌, Bool, true, refl}
use Rattle.std.proofs.lemmas.Result.{IfOk-weaker}
use Rattle.bpf_load.specs.Targets.{contents}
use Rattle.bpfdb_cli.specs.declared.plans.Plan.{Plan}
use Rattle.bpfdb.specs.Contents.{Contents}
use Rattle.bpfdb.specs.Files.{InParts, LacksWhere, read_of}
use Rattle.bpfdb.specs.Linux.{DoesLack}
use Rattle.bpfdb.specs.declared.linux.Linux.TheVariants.{Joined}
use Rattle.bpfdb.proofs.files.completed.Goals as goal

-- What is wanted and lacks is lacked in the world.
lacks_in : (wants : Bool) (plan : Plan) (given bytes : Contents) (lacks : Bool) → wants ≡ true → bytes ≡ given → DoesLack plan bytes lacks → lacks ≡ true
    → LacksWhere wants plan given true
lacks_in wants plan given bytes lacks wanted same does is = rw wanted (rw same at (rw is at does))

pub returns-in-Some-clause-ok : goal.returns-in-Some-clause-ok
returns-in-Some-clause-ok g c =
    let given = read_of c.args.given in
    let lacks = lacks_in _ _ given _ _ c.if-not-host.false c.bytes.ensures c.lacks_linux.ensures c.if-not-lacks_linux.false in
    IfOk-weaker c.with_parts.result (λ read. read_of read ≡ record given { with = given.with ++ contents c.in-Some.parts.items; linux = Joined }) _
    (λ read same. InParts given c.requires lacks (contents c.in-Some.parts.items) c.in-Some.ensures same) c.with_parts.ensures.ok
