-- What one row says, and whether it stands.
use Rattle.std.proofs.Common.{◌≡◌, ◌↔◌, ℕ, ◌-◌, Bool, true, false, List, [], ◌∷◌, ◌++◌, length, inl, inr, IsTrue, Some, None, Ok, Err, refl, sym, ap, ◌∙◌}
use Rattle.ep_units.specs.Text.{Text}
use Rattle.ep_units.specs.Utf8.{units_of}
use Rattle.ep_attr.specs.AttrMap.{Pair}
use Rattle.ep_cs.specs.Change.{Change}
use Rattle.ep_cs.specs.Doc.{Doc}
use Rattle.ep_csread.specs.Answer as read_answer
use Rattle.ep_csread.specs.Reading.{reading}
use Rattle.ep_csread.specs.declared.bad.ReadBad.{ReadBad}
use Rattle.ep_csread.specs.declared.bad.ReadBad.TheVariants as read_bad
use Rattle.ep_history.specs.declared.rev.Rev.{Rev}
use Rattle.ep_history.specs.History.{lacks_newline, made, newline}
use Rattle.ep_replay.specs.Standing.{MayStand}
use Rattle.ep_import.specs.declared.bad.ImportBad.TheVariants as bad
use Rattle.ep_import.specs.Imported.{Ends, Row, rev_of, rev_with}
use Rattle.ep_import.specs.Steps.{Follows}
use Rattle.ep_import.proofs.Following.{says_none, stands_none}

pub rev_said : (pairs : List Pair) (r : Row) (text author : Text) (c : Change) → text ≡ units_of r.changeset → author ≡ units_of r.author → reading pairs text ≡ Ok c
    → Some (record { change = c; author = author; session = r.session; time = r.time }) ≡ rev_of pairs r
rev_said pairs r text author c t a is =
    ap (λ (name : Text). Some (record { change = c; author = name; session = r.session; time = r.time })) a ∙ sym (ap (rev_with r) (ap (reading pairs) (sym t) ∙ is))

not_read : (pairs : List Pair) (text : Text) (why : ReadBad) → (why ≡ read_bad.NoMemory → ⊥) → read_answer.IsRefused why (reading pairs text) → reading pairs text ≡ Err why
not_read pairs text read_bad.NoMemory other is = absurd (other refl)
not_read pairs text why other is = is

pub rev_unsaid : (pairs : List Pair) (r : Row) (text : Text) (why : ReadBad) → text ≡ units_of r.changeset → (why ≡ read_bad.NoMemory → ⊥) → read_answer.IsRefused why (reading pairs text)
    → None ≡ rev_of pairs r
rev_unsaid pairs r text why t other is = sym (ap (rev_with r) (ap (reading pairs) (sym t) ∙ not_read pairs text why other is))

pub follows_some : (pairs : List Pair) (vs ws : List Rev) (r : Row) (v : Rev) → Some v ≡ rev_of pairs r → MayStand vs v → ws ≡ vs ++ v ∷ [] → Follows pairs vs r (Ok ws)
follows_some pairs vs ws r v said may is = inl (v, (sym said, may), ap Ok is)

pub follows_unsaid : (pairs : List Pair) (vs : List Rev) (r : Row) (n : ℕ) → None ≡ rev_of pairs r → n ≡ length vs → Follows pairs vs r (Err (bad.Revision n))
follows_unsaid pairs vs r n said is = inr (says_none pairs vs r (sym said), ap (λ k. Err (bad.Revision k)) is)

pub follows_unstood : (pairs : List Pair) (vs : List Rev) (r : Row) (v : Rev) (n : ℕ) → Some v ≡ rev_of pairs r → (MayStand vs v → ⊥) → n ≡ length vs → Follows pairs vs r (Err (bad.Revision n))
follows_unstood pairs vs r v n said never is = inr (stands_none pairs vs r v (sym said) never, ap (λ k. Err (bad.Revision k)) is)

pub ends_well : (vs : List Rev) (doc : Doc) (b : Bool) → doc ≡ made newline vs → (IsTrue b ↔ (lacks_newline doc ≡ false)) → b ≡ true → Ends vs (Ok vs)
ends_well vs doc b is told t = inl (sym (ap lacks_newline is) ∙ told.0 t, refl)

pub ends_badly : (vs : List Rev) (doc : Doc) (b : Bool) (n : ℕ) → doc ≡ made newline vs → (IsTrue b ↔ (lacks_newline doc ≡ false)) → b ≡ false → n ≡ length vs - 1 → Ends vs (Err (bad.Revision n))
ends_badly vs doc b n is told f m = go (lacks_newline doc) refl
  where
    go : (l : Bool) → lacks_newline doc ≡ l → Ends vs (Err (bad.Revision n))
    go true e = inr (sym (ap lacks_newline is) ∙ e, ap (λ k. Err (bad.Revision k)) m)
    go false e = let t : b ≡ true = told.1 e in absurd (cc)
