-- The words that stand before a program: they make bpfdb's struct of the packet in a frame of their own, and call the program with its address.
use Rattle.std.specs.Prelude.{ℕ, List, [], ◌∷◌}
use Rattle.bpf_packet.specs.declared.packet.Packet.{Packet}
use Rattle.bpf_packet.specs.declared.packet.Packet.TheVariants.{Xdp, Tc}

-- Of XDP: the struct lies at r10-40, all zero but for the three addresses.
abbrev pub xdp_words : List ℕ
xdp_words =
    0xbf ∷ (0x13 ∷ (0 ∷ (0 ∷ (0 ∷ (0 ∷ (0 ∷ (0 ∷ ( -- mov r3, r1
    0x0f ∷ (0x23 ∷ (0 ∷ (0 ∷ (0 ∷ (0 ∷ (0 ∷ (0 ∷ ( -- add r3, r2
    0x7b ∷ (0x1a ∷ (0xd8 ∷ (0xff ∷ (0 ∷ (0 ∷ (0 ∷ (0 ∷ ( -- stxdw [r10-40], r1
    0x7b ∷ (0x3a ∷ (0xe0 ∷ (0xff ∷ (0 ∷ (0 ∷ (0 ∷ (0 ∷ ( -- stxdw [r10-32], r3
    0x7b ∷ (0x1a ∷ (0xe8 ∷ (0xff ∷ (0 ∷ (0 ∷ (0 ∷ (0 ∷ ( -- stxdw [r10-24], r1
    0xbf ∷ (0xa1 ∷ (0 ∷ (0 ∷ (0 ∷ (0 ∷ (0 ∷ (0 ∷ ( -- mov r1, r10
    7 ∷ (1 ∷ (0 ∷ (0 ∷ (0xd8 ∷ (0xff ∷ (0xff ∷ (0xff ∷ ( -- add r1, -40
    0xb7 ∷ (2 ∷ (0 ∷ (0 ∷ (0 ∷ (0 ∷ (0 ∷ (0 ∷ ( -- mov r2, 0
    0xb7 ∷ (3 ∷ (0 ∷ (0 ∷ (0 ∷ (0 ∷ (0 ∷ (0 ∷ ( -- mov r3, 0
    0x85 ∷ (0x10 ∷ (0 ∷ (0 ∷ (3 ∷ (0 ∷ (0 ∷ (0 ∷ ( -- callf +3
    0x67 ∷ (0 ∷ (0 ∷ (0 ∷ (0x20 ∷ (0 ∷ (0 ∷ (0 ∷ ( -- lsh r0, 32
    0xc7 ∷ (0 ∷ (0 ∷ (0 ∷ (0x20 ∷ (0 ∷ (0 ∷ (0 ∷ ( -- arsh r0, 32
    0x95 ∷ (0 ∷ (0 ∷ (0 ∷ (0 ∷ (0 ∷ (0 ∷ (0 ∷ [])))))))))))))))))))))))))))))))))))))))))))))))))))))))))))))))))))))))))))))))))))))))))))))))))))))))  -- exit

-- Of tc: the struct lies at r10-104. `len` is at 24, and `protocol` at 40: bytes 12 and 13 of the packet, or, where these are a length,
-- below 0x600, ETH_P_802_2, or ETH_P_802_3 where ffff follows.
abbrev pub tc_words : List ℕ
tc_words =
    0xbf ∷ (0x13 ∷ (0 ∷ (0 ∷ (0 ∷ (0 ∷ (0 ∷ (0 ∷ ( -- mov r3, r1
    0x0f ∷ (0x23 ∷ (0 ∷ (0 ∷ (0 ∷ (0 ∷ (0 ∷ (0 ∷ ( -- add r3, r2
    0x7b ∷ (0x1a ∷ (0x98 ∷ (0xff ∷ (0 ∷ (0 ∷ (0 ∷ (0 ∷ ( -- stxdw [r10-104], r1
    0x7b ∷ (0x3a ∷ (0xa0 ∷ (0xff ∷ (0 ∷ (0 ∷ (0 ∷ (0 ∷ ( -- stxdw [r10-96], r3
    0x7b ∷ (0x1a ∷ (0xa8 ∷ (0xff ∷ (0 ∷ (0 ∷ (0 ∷ (0 ∷ ( -- stxdw [r10-88], r1
    0x63 ∷ (0x2a ∷ (0xb0 ∷ (0xff ∷ (0 ∷ (0 ∷ (0 ∷ (0 ∷ ( -- stxw [r10-80], r2
    0xa5 ∷ (2 ∷ (9 ∷ (0 ∷ (0x0e ∷ (0 ∷ (0 ∷ (0 ∷ ( -- jlt r2, 14, +9
    0x69 ∷ (0x14 ∷ (0x0c ∷ (0 ∷ (0 ∷ (0 ∷ (0 ∷ (0 ∷ ( -- ldxh r4, [r1+12]
    0x71 ∷ (0x15 ∷ (0x0c ∷ (0 ∷ (0 ∷ (0 ∷ (0 ∷ (0 ∷ ( -- ldxb r5, [r1+12]
    0x35 ∷ (5 ∷ (5 ∷ (0 ∷ (6 ∷ (0 ∷ (0 ∷ (0 ∷ ( -- jge r5, 6, +5
    0xb7 ∷ (4 ∷ (0 ∷ (0 ∷ (0 ∷ (4 ∷ (0 ∷ (0 ∷ ( -- mov r4, 0x400
    0xa5 ∷ (2 ∷ (3 ∷ (0 ∷ (0x10 ∷ (0 ∷ (0 ∷ (0 ∷ ( -- jlt r2, 16, +3
    0x69 ∷ (0x15 ∷ (0x0e ∷ (0 ∷ (0 ∷ (0 ∷ (0 ∷ (0 ∷ ( -- ldxh r5, [r1+14]
    0x55 ∷ (5 ∷ (1 ∷ (0 ∷ (0xff ∷ (0xff ∷ (0 ∷ (0 ∷ ( -- jne r5, 0xffff, +1
    0xb7 ∷ (4 ∷ (0 ∷ (0 ∷ (0 ∷ (1 ∷ (0 ∷ (0 ∷ ( -- mov r4, 0x100
    0x63 ∷ (0x4a ∷ (0xc0 ∷ (0xff ∷ (0 ∷ (0 ∷ (0 ∷ (0 ∷ ( -- stxw [r10-64], r4
    0xbf ∷ (0xa1 ∷ (0 ∷ (0 ∷ (0 ∷ (0 ∷ (0 ∷ (0 ∷ ( -- mov r1, r10
    7 ∷ (1 ∷ (0 ∷ (0 ∷ (0x98 ∷ (0xff ∷ (0xff ∷ (0xff ∷ ( -- add r1, -104
    0xb7 ∷ (2 ∷ (0 ∷ (0 ∷ (0 ∷ (0 ∷ (0 ∷ (0 ∷ ( -- mov r2, 0
    0xb7 ∷ (3 ∷ (0 ∷ (0 ∷ (0 ∷ (0 ∷ (0 ∷ (0 ∷ ( -- mov r3, 0
    0xb7 ∷ (4 ∷ (0 ∷ (0 ∷ (0 ∷ (0 ∷ (0 ∷ (0 ∷ ( -- mov r4, 0
    0xb7 ∷ (5 ∷ (0 ∷ (0 ∷ (0 ∷ (0 ∷ (0 ∷ (0 ∷ ( -- mov r5, 0
    0x85 ∷ (0x10 ∷ (0 ∷ (0 ∷ (3 ∷ (0 ∷ (0 ∷ (0 ∷ ( -- callf +3
    0x67 ∷ (0 ∷ (0 ∷ (0 ∷ (0x20 ∷ (0 ∷ (0 ∷ (0 ∷ ( -- lsh r0, 32
    0xc7 ∷ (0 ∷ (0 ∷ (0 ∷ (0x20 ∷ (0 ∷ (0 ∷ (0 ∷ ( -- arsh r0, 32
    0x95 ∷ (0 ∷ (0 ∷ (0 ∷ (0 ∷ (0 ∷ (0 ∷ (0 ∷ [])))))))))))))))))))))))))))))))))))))))))))))))))))))))))))))))))))))))))))))))))))))))))))))))))))))))))))))))))))))))))))))))))))))))))))))))))))))))))))))))))))))))))))))))))))))))))))))))))))))))))))))))  -- exit

abbrev pub entry_words : Packet → List ℕ
entry_words Xdp = xdp_words
entry_words Tc = tc_words
