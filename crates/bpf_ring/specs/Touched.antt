-- What a move touched, as its entry tells it: where what it replaced had stood, without what that was.
use Rattle.std.specs.Prelude.{ℕ, List, [], ◌∷◌, Option, Some, None, length}
use Rattle.bpf_entries.specs.declared.entry.Entry.{Entry}
use Rattle.bpf_entries.specs.declared.entry.Entry.TheVariants as entry
use Rattle.bpf_entries.specs.Frames.{frame_base}
use Rattle.bpf_entries.specs.Keeping.{Kept}
use Rattle.bpf_ring.specs.declared.touched.Touched.{Touched}
use Rattle.bpf_ring.specs.declared.touched.Touched.TheVariants as touched

-- By the depth of calls after the move: a call entered the frame of that depth.
abbrev pub touched_by : ℕ → Entry → Touched
touched_by d (entry.Register pc r value) = touched.Register r
touched_by d (entry.Call pc old) = touched.Frame (frame_base d) (length old)
touched_by d (entry.Store pc a old) = touched.Bytes a (length old)
touched_by d (entry.Fetch pc r value a old) = touched.Both r a (length old)
touched_by d (entry.Cell pc r0 a old) = touched.Both 0 a (length old)
touched_by d (entry.Trace pc r0) = touched.Word
touched_by d (entry.EditRegister r value) = touched.Register r
touched_by d (entry.EditBytes a old) = touched.Bytes a (length old)
touched_by d _ = touched.Nothing

-- What the newest one's move touched.
abbrev pub newest_touched : ℕ → List Kept → Option Touched
newest_touched d [] = None
newest_touched d (k ∷ ks) = Some (touched_by d k.0)
