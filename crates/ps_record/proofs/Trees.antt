-- A text that is the print of a tree is read as that tree.
use Rattle.std.proofs.Common.{◌≡◌, ℕ, List, refl, sym, ◌∙◌, ap, subst, arith}
use Rattle.serde_json.specs.Data.{Data}
use Rattle.serde_json.specs.Read.{read}
use Rattle.ps_types.specs.Form.{IsTree}
use Rattle.ps_types.specs.Print.{print, client}
use Rattle.ps_types.specs.Reading.{Reads, IsJson, tree_of}
use Rattle.ps_types.specs.Tree.{Tree, levels}
use Rattle.ps_types.proofs.PrintLaws.{print_reads, reads_one}
use Rattle.ps_wire.specs.Answer.{IsCause}
use Rattle.ps_wire.specs.declared.read.TreeRefusal.{TreeRefusal}
use Rattle.ps_wire.specs.declared.read.TreeRefusal.TheVariants as refusals

pub print_read : (text : List ℕ) (t : Tree) → IsTree t → print t ≡ text → Reads text t
print_read text t is printed = subst (λ (l : List ℕ). Reads l t) printed (print_reads t is)

-- the one tree of its text
pub only_tree : (text : List ℕ) (read t : Tree) → Reads text read → IsTree t → print t ≡ text → print read ≡ text
only_tree text read t reads is printed = ap print (reads_one text read t reads (print_read text t is printed)) ∙ printed

same_data : (text : List ℕ) (d e : Data) → IsJson text d → IsJson text e → d ≡ e
same_data text d e first second = let both = sym first.1 ∙ second.1 in cc

-- a text that is read is not refused
pub not_refused : (text : List ℕ) (e : TreeRefusal) → IsCause text e → (e ≡ refusals.Memory → ⊥) → (t : Tree) → Reads text t → ⊥
not_refused text refusals.Memory cause other t reads = other refl
not_refused text refusals.L2 cause other t reads = cause reads.0 reads.1
not_refused text refusals.L3 cause other t reads =
    let same = same_data text cause.0 reads.0 cause.1 reads.1 in
    let none = sym (ap (tree_of client) same) ∙ cause.2 in
    absurd (cc (none, reads.2))
not_refused text refusals.L4 cause other t reads =
    let same = same_data text cause.0 reads.0 cause.2 reads.1 in
    let some = sym (ap (tree_of client) same) ∙ cause.3 in
    let tree : cause.1 ≡ t = cc (some, reads.2) in
    omega (arith, ap levels tree, cause.4, reads.3.shallow)
