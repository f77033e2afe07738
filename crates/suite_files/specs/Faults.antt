-- What is wrong with a section that names files: its number, which follows those of a file of tests, and its text. bpfdb's own choice.
use Rattle.std.specs.Prelude.{ℕ, List, codes}
use Rattle.suite_files.specs.declared.fault.NamedFault.{NamedFault}
use Rattle.suite_files.specs.declared.fault.NamedFault.TheVariants.{Malformed, Outside, Unread, NoPacket, TooMuch}

abbrev pub named_fault : NamedFault → ℕ × List ℕ
named_fault Malformed = (9, codes "malformed section of a file")
named_fault Outside = (10, codes "file outside of the folder of the tests")
named_fault Unread = (11, codes "file can't be read")
named_fault NoPacket = (12, codes "no such packet, or no capture in pcap's own format")
named_fault TooMuch = (13, codes "more than 4096 files, or 67108864 bytes with them")
