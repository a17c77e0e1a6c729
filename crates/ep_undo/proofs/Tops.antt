-- Whether a stack has a top.
use Rattle.std.proofs.Common.{◌≡◌, true, List, [], ◌∷◌, refl, sym, ap, arith, false, ◌∙◌, ℕ, length, ◌==◌, not}
use Rattle.std.specs.Prelude.{is_some}
use Rattle.std.proofs.lemmas.Bool.Decides.{nat_tests}
use Rattle.ep_cs.specs.Edit.{Edit}
use Rattle.ep_undo.specs.Undo.{top}
use Rattle.ep_undo.specs.Undo as undo
use Rattle.ep_undo.specs.Stacks.{edits_of, all_down, has_records, stood}
use Rattle.ep_undo.specs.declared.stack.Record.{Record}

some-down : (d : Edit) (us : List Edit) → is_some (top (undo.down d us)) ≡ is_some (top us)
some-down d [] = refl
some-down d (u ∷ us) = refl

pub some-all_down : (ds us : List Edit) → is_some (top (all_down ds us)) ≡ is_some (top us)
some-all_down [] us = refl
some-all_down (d ∷ ds) us = some-all_down ds (undo.down d us) ∙ some-down d us

stays-some : (rs : List Record) (us : List Edit) → is_some (top us) ≡ true → is_some (top (stood rs us)) ≡ true
stays-some [] us e = e
stays-some (r ∷ rs) us e = stays-some rs (all_down (edits_of r.heard.items) (r.change.edit ∷ us)) (some-all_down (edits_of r.heard.items) (r.change.edit ∷ us))

-- there is one where there is a record
pub top-records : (rs : List Record) → has_records rs ≡ is_some (top (stood rs []))
top-records [] = refl
top-records (r ∷ rs) = sym (stays-some rs (all_down (edits_of r.heard.items) (r.change.edit ∷ [])) (some-all_down (edits_of r.heard.items) (r.change.edit ∷ [])))

-- where there are some their count isn't 0
pub counted-records : (rs : List Record) (n : ℕ) → n ≡ length rs → not (n == 0) ≡ has_records rs
counted-records [] n e = rw e refl
counted-records (r ∷ rs) n e = ap not (let h : (n == 0) ≡ false = grind (arith, nat_tests, e) in h)
