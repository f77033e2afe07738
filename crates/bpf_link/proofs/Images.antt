-- The numbers of addresses, and relocations of data.
use Rattle.std.proofs.Common.{◌≡◌, ◌+◌, ◌%◌, ◌==◌, nat_le, nat_lt, ℕ, Bool, true, List, Result, length, ap, ◌∙◌, arith}
use Rattle.bpf_link.specs.declared.fault.LinkFault.{LinkFault}
use Rattle.bpf_link.specs.declared.fault.LinkFault.TheVariants.{Pointer}
use Rattle.bpf_link.specs.declared.layout.RelocationEntry.{RelocationEntry}
use Rattle.bpf_link.specs.Data.{Numbered}
use Rattle.bpf_link.specs.Objects.{provided}
use Rattle.bpf_link.specs.Tables.{symbol_at}
use Rattle.bpf_link.specs.Images.{pointed_place, with_address, with_relocated}

pub two_wraps : (a b c : ℕ) → ((a + b) % 18446744073709551616 + c) % 18446744073709551616 ≡ (a + b + c) % 18446744073709551616
two_wraps a b c = omega arith

passed : {A : Type 0} (b : Bool) (fault : LinkFault) (next : Result A LinkFault) → b ≡ true → provided b fault next ≡ next
passed b fault next e = ap (λ b. provided b fault next) e

-- a relocation of an address that lies in data, against a symbol
pub relocated_is : (placed : Numbered) (relocation : RelocationEntry) (image : List ℕ)
    → (relocation.kind == 2) ≡ true → nat_le (relocation.offset + 8) (length image) ≡ true → nat_lt relocation.symbol (length placed.plan.symbols) ≡ true
    → with_relocated placed relocation image ≡ with_address placed relocation (symbol_at placed.plan.symbols relocation.symbol) (Pointer (pointed_place placed.plan relocation)) image
relocated_is placed relocation image kind inside known =
    passed (relocation.kind == 2) _ _ kind ∙ passed (nat_le (relocation.offset + 8) (length image)) _ _ inside ∙ passed (nat_lt relocation.symbol (length placed.plan.symbols)) _ _ known
