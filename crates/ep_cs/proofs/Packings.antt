-- What packed runs stand for.
use Rattle.std.proofs.Common.{◌≡◌, ℕ, zero, suc, ◌-◌, ◌<◌, ◌≤◌, ◌^◌, Bool, true, false, List, [], ◌∷◌, length, refl, sym, ap, ◌∙◌, subst, arith}
use Rattle.ep_units.specs.Text.{Text}
use Rattle.ep_attr.specs.AttrMap.{none}
use Rattle.ep_cs.specs.Edit.{Edit, settle, with_place, identity}
use Rattle.ep_cs.specs.Edit.Fate.{Keep}
use Rattle.ep_cs.specs.declared.op.Op.{Op}
use Rattle.ep_cs.specs.declared.packed.Packed.TheInside as packed
use Rattle.ep_cs.specs.Runs.{all_passed, rest_kept, marks_of}
use Rattle.ep_cs.specs.Change.{Change, change_of, bank_of}
use Rattle.ep_cs.specs.Fits.{is_identity, AreDocuments}
use Rattle.ep_cs.specs.Spelling.{old_len, new_len}
use Rattle.ep_cs.specs.NormalRuns.{AreNormal, AreLined, IsNormal}
use Rattle.ep_cs.specs.declared.builder.Builder.TheInside as builder
use Rattle.ep_cs.specs.Packed.{packed_change, IsPacked, begun, IsBegun}
use Rattle.ep_cs.specs.Written.{IsFinished}
use Rattle.ep_cs.specs.Draft.{Draft, blank, drafted, new_length}
use Rattle.ep_cs.proofs.Drafts.{new_length_is, drafted_is, passed_are}
use Rattle.ep_cs.proofs.Canonical.{runs_in, canonical}
use Rattle.ep_cs.proofs.Identity.{is_identity-identity, only_identity}
use Rattle.ep_cs.proofs.Items.{length-identity}
use Rattle.ep_cs.proofs.RunBank.{bank_is, length_is}
use Rattle.ep_cs.proofs.Truth.{rest_any}

pub all_kept : (n : ℕ) → settle [] (rest_kept n) ≡ identity n
all_kept zero = refl
all_kept (suc n) = ap (with_place (record { before = []; fate = Keep none })) (all_kept n)

pub normal_runs : (n : ℕ) (ops : List Op) (bank : Text) → all_passed ops ≤ n → AreNormal ops bank → AreLined ops → n < 2 ^ 32
    → new_len (change_of n ops bank).edit < 2 ^ 32 → AreDocuments (change_of n ops bank).edit.places (change_of n ops bank).edit.last → IsNormal (change_of n ops bank)
normal_runs n ops bank inside normal lined old new pieces =
    let places = length_is n ops bank inside in
    let runs = canonical n ops bank normal in
    let own = bank_is n ops bank normal in
    record {
      is = λ i. change_of (sym places i) (sym runs i) (sym own i);
      inside = subst (λ (x : List Op × ℕ). all_passed x.0 ≤ x.1) (λ i. (sym runs i, sym places i)) inside;
      normal = subst (λ (x : List Op × Text). AreNormal x.0 x.1) (λ i. (sym runs i, sym own i)) normal;
      lined = subst AreLined (sym runs) lined;
      old = subst (λ (k : ℕ). k < 2 ^ 32) (sym places) old;
      new = new;
      pieces = pieces;
    }

pub normal_change : (c : packed.Inside) → IsPacked c → IsNormal (packed_change c)
normal_change c h = normal_runs c.old_len c.ops.items c.bank h.inside h.normal h.lined h.old (subst (λ (k : ℕ). k < 2 ^ 32) h.new h.short) h.pieces

pub nothing_edit : (n : ℕ) (bank : Text) → (change_of n [] bank).edit ≡ identity n
nothing_edit n bank = ap (λ (k : ℕ). settle [] (rest_kept k)) (let e : n - 0 ≡ n = omega arith in e) ∙ all_kept n

pub identity_runs : (n : ℕ) (marks : List ℕ) → runs_in (identity n) marks ≡ []
identity_runs n marks = ap (λ e. runs_in e marks) (sym (all_kept n)) ∙ rest_any n marks

-- a change alters nothing exactly where it has no runs
pub no_runs : (n : ℕ) (ops : List Op) (bank : Text) → AreNormal ops bank → ops ≡ [] → is_identity (change_of n ops bank).edit ≡ true
no_runs n ops bank h e = ap (λ os. is_identity (change_of n os bank).edit) e ∙ ap (λ e. is_identity e) (nothing_edit n bank) ∙ is_identity-identity n

pub some_runs : (n : ℕ) (ops : List Op) (bank : Text) → AreNormal ops bank → is_identity (change_of n ops bank).edit ≡ true → ops ≡ []
some_runs n ops bank h e =
    let edit : Edit = (change_of n ops bank).edit in
    sym (canonical n ops bank h) ∙ ap (λ e. runs_in e (marks_of ops)) (only_identity edit e) ∙ identity_runs (length edit.places) (marks_of ops)

pub not_nothing : (n : ℕ) (ops : List Op) (bank : Text) → AreNormal ops bank → 1 ≤ length ops → is_identity (change_of n ops bank).edit ≡ false
not_nothing n ops bank h k = go (is_identity (change_of n ops bank).edit) refl
  where
    go : (b : Bool) → is_identity (change_of n ops bank).edit ≡ b → b ≡ false
    go true e = absurd (omega (arith, k, ap length (some_runs n ops bank h e)))
    go false e = refl

pub no_ops : (ops : List Op) → length ops < 1 → ops ≡ []
no_ops [] h = refl
no_ops (o ∷ os) h = absurd (omega (arith, h))

no_pieces : (n : ℕ) → AreDocuments (identity n).places (identity n).last
no_pieces zero = refl
no_pieces (suc n) = (refl, no_pieces n)

nothing_length : (n : ℕ) → new_len (identity n) ≡ n
nothing_length n =
    let d : Draft = blank n in
    ap new_len (sym (nothing_edit n [])) ∙ new_length_is d (omega arith) ∙ omega arith

-- ---- a change of no runs

pub nothing_old : (n : ℕ) (bank : Text) → n ≡ old_len (change_of n [] bank).edit
nothing_old n bank = sym (ap old_len (nothing_edit n bank) ∙ length-identity n)

pub nothing_new : (n : ℕ) (bank : Text) → n ≡ new_len (change_of n [] bank).edit
nothing_new n bank = sym (ap new_len (nothing_edit n bank) ∙ nothing_length n)

pub nothing_is : (n : ℕ) (bank : Text) → true ≡ is_identity (change_of n [] bank).edit
nothing_is n bank = sym (ap (λ (e : Edit). is_identity e) (nothing_edit n bank) ∙ is_identity-identity n)

pub nothing_runs : (n : ℕ) (bank : Text) → [] ≡ (change_of n [] bank).runs
nothing_runs n bank = sym (ap (λ e. runs_in e []) (nothing_edit n bank) ∙ identity_runs n [])

pub nothing_bank : (n : ℕ) (bank : Text) → bank ≡ [] → bank ≡ bank_of (change_of n [] bank).edit
nothing_bank n bank e = sym (bank_is n [] bank e)

pub nothing_normal : (n : ℕ) (bank : Text) → bank ≡ [] → n < 2 ^ 32 → IsNormal (change_of n [] bank)
nothing_normal n bank e h =
    normal_runs n [] bank (omega arith) e tt h (subst (λ (k : ℕ). k < 2 ^ 32) (nothing_new n bank) h)
    (subst (λ (x : Edit). AreDocuments x.places x.last) (sym (nothing_edit n bank)) (no_pieces n))

-- what a builder finishes
pub finished_change : (b : builder.Inside) (c : packed.Inside) → IsBegun b → IsFinished b.old_len b.ops.items b.bank c.ops.items → c.old_len ≡ b.old_len → c.bank ≡ b.bank → packed_change c ≡ drafted (begun b)
finished_change b c t f o k = (λ i. change_of (o i) c.ops.items (k i)) ∙ f.same ∙ sym (drafted_is b.old_len b.ops.items b.bank)

pub finished_is : (b : builder.Inside) (c : packed.Inside) → IsBegun b → IsFinished b.old_len b.ops.items b.bank c.ops.items → AreLined c.ops.items → c.old_len ≡ b.old_len → c.new_len ≡ b.new_len → c.bank ≡ b.bank
    → new_length (begun b) < 2 ^ 32 → AreDocuments (drafted (begun b)).edit.places (drafted (begun b)).edit.last → IsPacked c
finished_is b c t f lined o n k short pieces =
    let same = finished_change b c t f o k in
    record {
      inside = omega (arith, f.inside, o);
      normal = subst (AreNormal c.ops.items) (sym k) f.normal;
      lined = lined;
      old = omega (arith, o, t.old);
      new = n ∙ t.new ∙ sym (new_length_is (begun b) (omega (arith, t.inside, passed_are b.ops.items b.bank))) ∙ ap (λ (c : Change). new_len c.edit) (sym same);
      short = omega (arith, n, t.new, short);
      pieces = subst (λ (c : Change). AreDocuments c.edit.places c.edit.last) (sym same) pieces;
    }
