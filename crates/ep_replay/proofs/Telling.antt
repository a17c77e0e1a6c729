-- What tests tell of revisions.
use Rattle.std.proofs.Common.{◌≡◌, ℕ, Bool, true, false, ◌↔◌, IsTrue, IfOk, Result, Ok, Err, length, sym, ap, ◌∙◌, subst, T}
use Rattle.ep_units.specs.Text.{Text, text_eq}
use Rattle.ep_units.specs.declared.no_memory.NoMemory.{NoMemory}
use Rattle.ep_attr.proofs.Maps.{exact_test}
use Rattle.ep_attr.proofs.SameMap.{itself}
use Rattle.ep_cs.specs.Change.{Change, bank_of}
use Rattle.ep_cs.specs.Doc.{Doc}
use Rattle.ep_cs.specs.Fits.{Fits}
use Rattle.ep_cs.specs.NormalRuns.{IsNormal}
use Rattle.ep_history.specs.declared.rev.Rev.{Rev}
use Rattle.ep_history.specs.History.{lacks_newline, newline_rev}
use Rattle.ep_history.proofs.Answered.{normal-edit}
use Rattle.ep_past.specs.Revisions.{IsLater}
use Rattle.ep_replay.proofs.Sameness.{one_change}

-- equal texts are one
pub told_text : (r : Bool) (a b : Text) → r ≡ text_eq a b → (IsTrue r → a ≡ b) × (a ≡ b → IsTrue r)
told_text r a b e = (λ t. exact_test a b (sym e ∙ t), λ h. e ∙ ap (λ c. text_eq a c) (sym h) ∙ itself a)

-- changes of as many units with the same operations are one where their banks are
pub told_change : (r : Bool) (a b : Change) (us vs : Text) → IsNormal a → IsNormal b → length a.edit.places ≡ length b.edit.places → a.runs ≡ b.runs → us ≡ bank_of a.edit → vs ≡ bank_of b.edit
    → IsTrue r ↔ (us ≡ vs) → (IsTrue r → a ≡ b) × (a ≡ b → IsTrue r)
told_change r a b us vs m n l s p q t =
    (λ h. one_change a b m n l s (sym p ∙ t.0 h ∙ q), λ h. t.1 (p ∙ ap (λ (c : Change). bank_of c.edit) h ∙ sym q))

-- behind a document that ends in a newline
pub told_ended : (time : ℕ) (doc : Doc) (v : Rev) → IsNormal v.change → Fits v.change doc → lacks_newline doc ≡ false → IsLater time doc v
told_ended time doc v n f line = record { fits = f; edit = normal-edit v.change n; closes = λ lacks. absurd (subst T (sym lacks ∙ line) tt) }

-- behind one that lacks it
told_closing : (time : ℕ) (doc : Doc) (v : Rev) (r : Bool) → IsNormal v.change → Fits v.change doc → lacks_newline doc ≡ true → IsTrue r ↔ (v ≡ newline_rev time doc) → IsTrue r ↔ IsLater time doc v
told_closing time doc v r n f lacks h = (λ t. record { fits = f; edit = normal-edit v.change n; closes = λ l. h.0 t }, λ is. h.1 (is.closes lacks))

pub closing_answer : (time : ℕ) (doc : Doc) (v : Rev) (result : Result Bool NoMemory) → IsNormal v.change → Fits v.change doc → lacks_newline doc ≡ true
    → IfOk result (λ is. IsTrue is ↔ (v ≡ newline_rev time doc)) → IfOk result (λ is. IsTrue is ↔ IsLater time doc v)
closing_answer time doc v (Ok r) n f lacks h = told_closing time doc v r n f lacks h
closing_answer time doc v (Err why) n f lacks h = tt
