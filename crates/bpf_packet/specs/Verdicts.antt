-- The names of verdicts: for what the kernel takes that which a packet's program answers (linux/bpf.h, linux/pkt_cls.h).
use Rattle.std.specs.Prelude.{ℕ, ◌%◌, ◌==◌, if◌then◌else◌, List, Option, Some, None, codes}
use Rattle.bpf_packet.specs.declared.packet.Packet.{Packet}
use Rattle.bpf_packet.specs.declared.packet.Packet.TheVariants.{Xdp, Tc}

abbrev pub xdp_verdict : ℕ → Option (List ℕ)
xdp_verdict verdict = if verdict == 0 then Some (codes "XDP_ABORTED") else if verdict == 1 then Some (codes "XDP_DROP")
    else if verdict == 2 then Some (codes "XDP_PASS") else if verdict == 3 then Some (codes "XDP_TX")
    else if verdict == 4 then Some (codes "XDP_REDIRECT") else None

-- (-1 is TC_ACT_UNSPEC.)
abbrev pub tc_verdict : ℕ → Option (List ℕ)
tc_verdict verdict = if verdict == 0xffffffff then Some (codes "TC_ACT_UNSPEC") else if verdict == 0 then Some (codes "TC_ACT_OK")
    else if verdict == 1 then Some (codes "TC_ACT_RECLASSIFY") else if verdict == 2 then Some (codes "TC_ACT_SHOT")
    else if verdict == 3 then Some (codes "TC_ACT_PIPE") else if verdict == 4 then Some (codes "TC_ACT_STOLEN")
    else if verdict == 5 then Some (codes "TC_ACT_QUEUED") else if verdict == 6 then Some (codes "TC_ACT_REPEAT")
    else if verdict == 7 then Some (codes "TC_ACT_REDIRECT") else if verdict == 8 then Some (codes "TC_ACT_TRAP") else None

-- The low 32 bits of what a program answers are its verdict.
abbrev pub verdict_of : ℕ → ℕ
verdict_of value = value % 4294967296

abbrev pub verdict_name : Packet → ℕ → Option (List ℕ)
verdict_name Xdp value = xdp_verdict (verdict_of value)
verdict_name Tc value = tc_verdict (verdict_of value)
