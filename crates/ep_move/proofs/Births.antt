-- The last birth of a pad after each record.
use Rattle.std.proofs.Common.{◌≡◌, ℕ, ◌≤◌, List, [], ◌∷◌, ◌++◌, length, Option, Some, None, refl, sym, ap, ◌∙◌, subst, arith}
use Rattle.ep_units.specs.Text.{Text}
use Rattle.ep_cs.specs.Edit.{apply}
use Rattle.ep_history.specs.History.{Birth, first_rev, head_doc, made, newline}
use Rattle.ep_history.specs.Lists.{numbered, or_else}
use Rattle.ep_history.specs.Pad.{PadState, birth_at, create, newest, no_birth, with_nops, with_revs}
use Rattle.ep_history.specs.declared.nop.Nop.{Nop}
use Rattle.ep_history.specs.declared.rev.Rev.{Rev}
use Rattle.ep_history.proofs.Births.{length-more, longer, longer-head, nops-count, nops-newest, noting, numbered-newest, revs-count, revs-newest}
use Rattle.ep_move.specs.Reread.{IsLast, IsThere}
use Rattle.ep_move.specs.declared.last.Last.{Last}

abbrev all_revs : Birth → List Rev
all_revs b = b.first ∷ b.later

-- ---- births that stay

newest_same : (p q : PadState) → q.births ≡ p.births → newest q ≡ newest p
newest_same p q same = ap (λ (bs : List Birth). or_else (numbered bs (length bs)) no_birth) same

there_same : (l : Last) (p q : PadState) → q.births ≡ p.births → q.present ≡ p.present → IsThere l p → IsThere l q
there_same l p q same present h = record {
  present = present ∙ h.present;
  some = subst (λ (bs : List Birth). 1 ≤ length bs) (sym same) h.some;
  revs = h.revs ∙ sym (ap all_revs (newest_same p q same));
  doc = h.doc ∙ sym (ap head_doc (newest_same p q same));
}

pub last_same : (o : Option Last) (p q : PadState) → q.births ≡ p.births → q.present ≡ p.present → IsLast o p → IsLast o q
last_same (Some l) p q same present h = there_same l p q same present h
last_same None p q same present h = present ∙ h

-- ---- edits that became nothing

newest_noted : (p : PadState) (xs : List Nop) → 1 ≤ length p.births → newest (with_nops p xs) ≡ noting (newest p) xs
newest_noted p xs some = ap (λ (k : ℕ). birth_at (with_nops p xs) k) (nops-count p xs) ∙ nops-newest p xs some

there_noted : (l : Last) (p : PadState) (xs : List Nop) → IsThere l p → IsThere l (with_nops p xs)
there_noted l p xs h = record {
  present = h.present;
  some = subst (λ (k : ℕ). 1 ≤ k) (sym (nops-count p xs)) h.some;
  revs = h.revs ∙ sym (ap all_revs (newest_noted p xs h.some));
  doc = h.doc ∙ sym (ap head_doc (newest_noted p xs h.some));
}

pub last_noted : (o : Option Last) (p : PadState) (xs : List Nop) → IsLast o p → IsLast o (with_nops p xs)
last_noted (Some l) p xs h = there_noted l p xs h
last_noted None p xs h = h

-- ---- more revisions

newest_longer : (p : PadState) (vs : List Rev) → 1 ≤ length p.births → newest (with_revs p vs) ≡ longer (newest p) vs
newest_longer p vs some = ap (λ (k : ℕ). birth_at (with_revs p vs) k) (revs-count p vs) ∙ revs-newest p vs some

pub there_longer : (l new : Last) (p : PadState) (vs : List Rev) → IsThere l p → new.revs.items ≡ l.revs.items ++ vs → new.doc ≡ made l.doc vs → IsThere new (with_revs p vs)
there_longer l new p vs h r d =
    let n = newest_longer p vs h.some in
    record {
      present = h.present;
      some = subst (λ (k : ℕ). 1 ≤ k) (sym (revs-count p vs)) h.some;
      revs = r ∙ (ap (λ (us : List Rev). us ++ vs) h.revs ∙ sym (ap all_revs n));
      doc = d ∙ (ap (λ x. made x vs) h.doc ∙ (sym (longer-head (newest p) vs) ∙ sym (ap head_doc n)));
    }

-- ---- a birth

abbrev born : ℕ → Text → Birth
born time text = record { first = first_rev time text; later = []; nops = [] }

newest_born : (p : PadState) (time : ℕ) (text : Text) → newest (create p time text) ≡ born time text
newest_born p time text =
    ap (λ (k : ℕ). or_else (numbered (p.births ++ born time text ∷ []) k) no_birth) (length-more p.births (born time text))
    ∙ ap (λ (o : Option Birth). or_else o no_birth) (numbered-newest p.births (born time text))

pub there_born : (l : Last) (p : PadState) (time : ℕ) (text : Text) → l.revs.items ≡ first_rev time text ∷ [] → l.doc ≡ apply (first_rev time text).change.edit newline → IsThere l (create p time text)
there_born l p time text r d =
    let n = newest_born p time text in
    let k = length-more p.births (born time text) in
    record {
      present = refl;
      some = omega (arith, k);
      revs = r ∙ sym (ap all_revs n);
      doc = d ∙ sym (ap head_doc n);
    }
