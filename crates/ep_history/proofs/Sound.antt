-- Each record that may come next keeps a pad sound.
use Rattle.std.proofs.Common.{◌≡◌, ℕ, zero, suc, ◌≤◌, Bool, true, false, not, ◌==◌, if◌then◌else◌, List, [], ◌∷◌, ◌⊎◌, inl, inr, map, length, Option, Some, None, refl, sym, ap, ◌∙◌, subst, T, arith}
use Rattle.std.proofs.lemmas.List.{length-append}
use Rattle.std.proofs.lemmas.Bool.Decides.{nat_tests}
use Rattle.ep_units.specs.Text.{Text, is_high, is_newline, is_well_formed}
use Rattle.ep_outside.specs.declared.limits.Limits.{Limits}
use Rattle.ep_attr.proofs.SameMap.{both_true, second_true}
use Rattle.ep_cs.specs.Doc.{Doc, text_of}
use Rattle.ep_cs.specs.Edit.{Edit}
use Rattle.ep_cs.specs.Change.{Change, stamped}
use Rattle.ep_cs.specs.Fits.{Fits}
use Rattle.ep_cs.specs.EditFits.{is_edit}
use Rattle.ep_cs.specs.declared.op.Op.{Op}
use Rattle.ep_cs.proofs.EditFits.{IsFit, ends_well, fits_true, true_fits}
use Rattle.ep_history.specs.History.{By, Birth, first_rev, first_doc, doc_at, head_doc, lacks_newline, step_revs}
use Rattle.ep_history.specs.Pad.{PadState, birth_at, newest, ended, first_end, is_live, live_count, create, with_revs, with_nops}
use Rattle.ep_history.specs.declared.rev.Rev.{Rev}
use Rattle.ep_history.specs.declared.nop.Nop.{Nop}
use Rattle.ep_history.specs.declared.seat.Seat.{Seat}
use Rattle.ep_history.specs.declared.seat.Why.{Why}
use Rattle.ep_history.specs.declared.record.Record.{Record}
use Rattle.ep_history.specs.declared.record.Record.TheVariants as record_of
use Rattle.ep_history.specs.Records.{unopened, IsNext, next_pad, told_from, told, AreNext, AreLegal, IsSoundBirth, IsSoundPad}
use Rattle.ep_history.proofs.Births.{IsGoodBirth, longer, noting, good-step, line-step, good-first, line-first, revs-at, revs-count, nops-at, nops-count, created-at}

-- ---- a change that fits, as the records say it and as the proofs do

pub fit-of : (c : Change) (doc : Doc) → Fits c doc → is_edit c.edit ≡ true → IsFit c.edit doc
fit-of c doc f is = fits_true c.edit doc (both_true _ _ (same (length c.edit.places) f.length) (both_true _ _ f.pairs is))
  where
    same : (n : ℕ) → length doc ≡ n → (length doc == n) ≡ true
    same n e = grind (arith, nat_tests)

pub told-of : (c : Change) (doc : Doc) → Fits c doc → c ≡ stamped c.edit (text_of doc)
told-of c doc f = ap with_runs f.runs
  where
    with_runs : List Op → Change
    with_runs os = record { edit = c.edit; runs = os }

pub edit-of : (e : Edit) (doc : Doc) → IsFit e doc → is_edit e ≡ true
edit-of e doc f = second_true _ _ (second_true _ _ (true_fits e doc f))

-- ---- births

high-newline : (u : ℕ) → is_newline u ≡ true → is_high u ≡ false
high-newline u e = grind (arith, nat_tests)

ends-line : (doc : Doc) → lacks_newline doc ≡ false → ends_well doc ≡ true
ends-line [] e = absurd (subst T e tt)
ends-line (c ∷ []) e = go (is_newline c.unit) refl e
  where
    go : (b : Bool) → is_newline c.unit ≡ b → not b ≡ false → not (is_high c.unit) ≡ true
    go true n e = ap not (high-newline c.unit n)
    go false n e = absurd (subst T e tt)
ends-line (c ∷ (d ∷ doc)) e = ends-line (d ∷ doc) e

pub good-of : (b : Birth) → IsSoundBirth b → IsGoodBirth b
good-of b s = record {
  first = ends-line (first_doc b) s.line;
  text = s.text;
  later = λ i v e. record { fit = fits_true v.change.edit (doc_at b i) (s.fit i v e); told = s.stamp i v e };
}

sound-of : (b : Birth) → IsGoodBirth b → lacks_newline (first_doc b) ≡ false → lacks_newline (head_doc b) ≡ false → IsSoundBirth b
sound-of b g l e = record {
  text = g.text;
  line = l;
  fit = λ i v h. true_fits v.change.edit (doc_at b i) (g.later i v h).fit;
  stamp = λ i v h. (g.later i v h).told;
  ends = e;
}

sound-step : (b : Birth) (by : By) (e : Edit) → IsSoundBirth b → IsFit e (head_doc b) → IsSoundBirth (longer b (step_revs by e (head_doc b)))
sound-step b by e s f = sound-of (longer b (step_revs by e (head_doc b))) (good-step b by e (good-of b s) f) s.line (line-step b by e)

sound-noting : (b : Birth) (xs : List Nop) → IsSoundBirth b → IsSoundBirth (noting b xs)
sound-noting b xs s = record { text = s.text; line = s.line; fit = s.fit; stamp = s.stamp; ends = s.ends }

pub sound-first : (now : ℕ) (text : Text) → is_well_formed text ≡ true → IsSoundBirth (record { first = first_rev now text; later = []; nops = [] })
sound-first now text w = sound-of (record { first = first_rev now text; later = []; nops = [] }) (good-first now text w) (line-first now text) (line-first now text)

-- ---- sessions

pub end-ends : (why : Why) (l : Seat) → is_live (ended why l) ≡ false
end-ends why l = go l.end
  where
    go : (o : Option Why) → is_live (record l { end = first_end o why }) ≡ false
    go None = refl
    go (Some old) = refl

pub none-live : (why : Why) (ls : List Seat) → live_count (map (ended why) ls) ≡ 0
none-live why [] = refl
none-live why (l ∷ ls) =
    let rest = none-live why ls in
    let none : one (is_live (ended why l)) ≡ one false = ap one (end-ends why l) in
    omega (arith, none, rest)
  where
    one : Bool → ℕ
    one b = if b then 1 else 0

-- ---- pads

present-not : {P : Type 0} (pad : PadState) → pad.present ≡ true → pad.present ≡ false → P
present-not pad t f = absurd (subst T (sym t ∙ f) tt)

with-revs-sound : (pad : PadState) (by : By) (e : Edit) → IsSoundPad pad → pad.present ≡ true → IsFit e (head_doc (newest pad)) → IsSoundPad (with_revs pad (step_revs by e (head_doc (newest pad))))
with-revs-sound pad by e s p f = record {
  births = λ k. go k (revs-at pad vs k);
  present = λ h. let n = revs-count pad vs in let m = s.present p in omega (arith, n, m);
  absent = s.absent;
}
  where
    vs : List Rev
    vs = step_revs by e (head_doc (newest pad))

    go : (k : ℕ) → ((1 ≤ length pad.births) × (k ≡ length pad.births) × (birth_at (with_revs pad vs) k ≡ longer (birth_at pad k) vs)) ⊎ (birth_at (with_revs pad vs) k ≡ birth_at pad k) → IsSoundBirth (birth_at (with_revs pad vs) k)
    go k (inl z) = subst IsSoundBirth (sym (z.2 ∙ ap (λ j. longer (birth_at pad j) vs) z.1)) (sound-step (newest pad) by e (s.births (length pad.births)) f)
    go k (inr z) = subst IsSoundBirth (sym z) (s.births k)

with-nops-sound : (pad : PadState) (xs : List Nop) → IsSoundPad pad → pad.present ≡ true → IsSoundPad (with_nops pad xs)
with-nops-sound pad xs s p = record {
  births = λ k. go k (nops-at pad xs k);
  present = λ h. let n = nops-count pad xs in let m = s.present p in omega (arith, n, m);
  absent = s.absent;
}
  where
    go : (k : ℕ) → ((1 ≤ length pad.births) × (k ≡ length pad.births) × (birth_at (with_nops pad xs) k ≡ noting (birth_at pad k) xs)) ⊎ (birth_at (with_nops pad xs) k ≡ birth_at pad k) → IsSoundBirth (birth_at (with_nops pad xs) k)
    go k (inl z) = subst IsSoundBirth (sym z.2) (sound-noting (birth_at pad k) xs (s.births k))
    go k (inr z) = subst IsSoundBirth (sym z) (s.births k)

pub create-sound : (pad : PadState) (now : ℕ) (text : Text) → IsSoundPad pad → is_well_formed text ≡ true → IsSoundPad (create pad now text)
create-sound pad now text s w = record {
  births = λ k. go k (created-at pad now text k);
  present = λ h. let n = length-append pad.births (new ∷ []) in omega (arith, n);
  absent = λ h. absurd (subst T h tt);
}
  where
    new : Birth
    new = record { first = first_rev now text; later = []; nops = [] }

    go : (k : ℕ) → ((k ≡ suc (length pad.births)) × (birth_at (create pad now text) k ≡ new)) ⊎ (birth_at (create pad now text) k ≡ birth_at pad k) → IsSoundBirth (birth_at (create pad now text) k)
    go k (inl z) = subst IsSoundBirth (sym z.1) (sound-first now text w)
    go k (inr z) = subst IsSoundBirth (sym z) (s.births k)

pub next-sound : (pad : PadState) (r : Record) → IsSoundPad pad → IsNext pad r → IsSoundPad (next_pad pad r)
next-sound pad (record_of.Open epoch) s n = record { births = s.births; present = s.present; absent = λ h. refl }
next-sound pad (record_of.Create birth time text) s n = create-sound pad time text s n.2
next-sound pad (record_of.Rev session time author fixed change) s n =
    with-revs-sound pad (record { author = author; session = session; time = time }) change.edit s n.0 (fit-of change (head_doc (newest pad)) n.1 n.2)
next-sound pad (record_of.Delete time) s n =
    record { births = s.births; present = λ h. absurd (subst T (sym h) tt); absent = λ h. none-live _ pad.sessions }
next-sound pad (record_of.Public on) s n = record { births = s.births; present = s.present; absent = s.absent }
next-sound pad (record_of.Nop session time) s n = with-nops-sound pad _ s n

pub told-sound : (pad : PadState) (rs : List Record) → IsSoundPad pad → AreNext pad rs → IsSoundPad (told_from pad rs)
told-sound pad [] s n = s
told-sound pad (r ∷ rs) s n = told-sound (next_pad pad r) rs (next-sound pad r s n.0) n.1

unopened-sound : (limits : Limits) → IsSoundPad (unopened limits)
unopened-sound limits = record { births = go; present = λ h. absurd (subst T (sym h) tt); absent = λ h. refl }
  where
    go : (k : ℕ) → IsSoundBirth (birth_at (unopened limits) k)
    go zero = sound-first 0 [] refl
    go (suc k) = sound-first 0 [] refl

pub legal-sound : (limits : Limits) (rs : List Record) → AreLegal limits rs → IsSoundPad (told limits rs)
legal-sound limits rs n = told-sound (unopened limits) rs (unopened-sound limits) n
