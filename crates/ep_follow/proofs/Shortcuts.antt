-- What follows where one of two changes alters nothing.
use Rattle.std.proofs.Common.{◌≡◌, ◌∙◌, ℕ, true, [], refl, sym, ap, subst}
use Rattle.ep_cs.specs.Doc.{Doc, text_of}
use Rattle.ep_cs.specs.Edit.{Edit, identity, apply}
use Rattle.ep_cs.specs.Change.{Change, stamped, newlines}
use Rattle.ep_cs.specs.Fits.{Fits, is_identity}
use Rattle.ep_cs.specs.Follow.{follow}
use Rattle.ep_cs.specs.NormalRuns.{IsNormal}
use Rattle.ep_cs.specs.Spelling.{new_len}
use Rattle.ep_cs.proofs.EditFits.{length-follow}
use Rattle.ep_cs.proofs.Identity.{apply-identity, only_identity, is_identity-identity}
use Rattle.ep_cs.proofs.Packings.{identity_runs}
use Rattle.ep_cs.proofs.Pairs.{follow_keeps_pairs}
use Rattle.ep_cs.proofs.Documents.{pieces_of}
use Rattle.ep_cs.specs.declared.bad.First.{First}
use Rattle.ep_follow.specs.Follows.{is_a, Follows}
use Rattle.ep_follow.proofs.Identities.{nothing_left, through_identity}

-- behind a change that alters nothing the other is as it was
pub same_follows : (first : First) (a b c : Change) → IsNormal b → is_identity a.edit ≡ true → c ≡ b → Follows first a b c
same_follows first a b c nb e is = λ doc fa fb. is ∙ sym (through_identity (is_a first) a b doc nb fa fb e)

pub same_fits : (a b c : Change) → is_identity a.edit ≡ true → c ≡ b → (doc : Doc) → Fits a doc → Fits b doc → Fits c (apply a.edit doc)
same_fits a b c e is doc fa fb =
    let stays : apply a.edit doc ≡ doc = ap (λ (x : Edit). apply x doc) (only_identity a.edit e ∙ ap identity (sym fa.length)) ∙ apply-identity doc in
    subst (λ (x : Change × Doc). Fits x.0 x.1) (λ i. (sym is i, sym stays i)) fb

-- of a change that alters nothing nothing is left
pub nothing_follows : (first : First) (a b c : Change) → is_identity b.edit ≡ true → c.edit ≡ identity (new_len a.edit) → c.runs ≡ [] → Follows first a b c
nothing_follows first a b c e is runs = λ doc fa fb.
    let made = text_of (apply a.edit doc) in
    let n = new_len a.edit in
    let left : follow (is_a first) a.edit b.edit ≡ identity n = nothing_left (is_a first) a b doc fa fb e in
    (λ i. record { edit = is i; runs = (runs ∙ sym (identity_runs n (newlines made))) i }) ∙ ap (λ (x : Edit). stamped x made) (sym left)

pub nothing_fits : (first : First) (a b c : Change) → IsNormal a → Follows first a b c → (doc : Doc) → Fits a doc → Fits b doc → Fits c (apply a.edit doc)
nothing_fits first a b c na follows doc fa fb =
    subst (λ (x : Change). Fits x (apply a.edit doc)) (sym (follows doc fa fb))
    (record {
      length = length-follow (is_a first) a.edit b.edit doc fa.length fb.length;
      runs = refl;
      pairs = follow_keeps_pairs (is_a first) a.edit b.edit doc (sym fa.length ∙ fb.length) fa.length (pieces_of a.edit.places a.edit.last na.pieces) fa.pairs fb.pairs;
    })

pub nothing_stays : (c : Change) (n : ℕ) → c.edit ≡ identity n → is_identity c.edit ≡ true
nothing_stays c n e = ap (λ (x : Edit). is_identity x) e ∙ is_identity-identity n
