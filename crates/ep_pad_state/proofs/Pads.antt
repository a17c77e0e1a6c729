-- Pads and births after each change.
use Rattle.std.proofs.Common.{◌≡◌, ℕ, zero, suc, ◌≤◌, Bool, true, List, [], ◌∷◌, ◌++◌, length, take, drop, Option, Some, None, refl, sym, ap, ◌∙◌, subst, T, arith}
use Rattle.std.proofs.lemmas.List.{length-append, take_all}
use Rattle.ep_units.specs.Text.{Text}
use Rattle.ep_units.specs.declared.session.Session.{Session}
use Rattle.ep_cs.specs.Doc.{Doc}
use Rattle.ep_cs.specs.Edit.{apply}
use Rattle.ep_history.specs.declared.rev.Rev.{Rev}
use Rattle.ep_history.specs.declared.nop.Nop.{Nop}
use Rattle.ep_history.specs.declared.seat.Seat.{Seat}
use Rattle.ep_history.specs.History.{Birth, first_doc, head, head_doc, made, newline}
use Rattle.ep_history.specs.Lists.{at, numbered, or_else}
use Rattle.ep_history.specs.Pad.{PadState, no_birth, birth_at, newest, seat_of, with_revs, with_nops, with_session, leave}
use Rattle.ep_history.specs.Readings.{last_rev}
use Rattle.ep_history.specs.Records.{IsSoundPad}
use Rattle.ep_history.specs.declared.record.Record.TheVariants as record_of
use Rattle.ep_cs.specs.Change.{Change}
use Rattle.ep_cs.specs.Fits.{Fits}
use Rattle.ep_cs.specs.EditFits.{is_edit}
use Rattle.ep_history.specs.History.{By, step_revs, first_rev, lacks_newline}
use Rattle.ep_history.specs.Pad.{delete, set_public, create, next_session}
use Rattle.ep_history.specs.Readings.{Welcome, welcome, dead_fault, dead_if, end_of, edited}
use Rattle.ep_history.specs.declared.seat.Why.{Why}
use Rattle.ep_units.specs.declared.grant.Grant.{Grant}
use Rattle.ep_history.proofs.Lists.{none_some}
use Rattle.ep_history.proofs.Sound.{next-sound}
use Rattle.ep_history.proofs.Births.{longer, noting, revs-count, revs-newest, nops-count, nops-newest, numbered-newest}
use Rattle.ep_history.proofs.Recorded.{live-present}

-- ---- the last birth after a change

pub newest-revs : (p : PadState) (vs : List Rev) → 1 ≤ length p.births → newest (with_revs p vs) ≡ longer (newest p) vs
newest-revs p vs h = ap (birth_at (with_revs p vs)) (revs-count p vs) ∙ revs-newest p vs h

pub newest-nops : (p : PadState) (xs : List Nop) → 1 ≤ length p.births → newest (with_nops p xs) ≡ noting (newest p) xs
newest-nops p xs h = ap (birth_at (with_nops p xs)) (nops-count p xs) ∙ nops-newest p xs h

pub count-born : (bs : List Birth) (b : Birth) → length (bs ++ b ∷ []) ≡ suc (length bs)
count-born bs b = let n = length-append bs (b ∷ []) in omega (arith, n)

pub newest-born : (bs : List Birth) (b : Birth) → or_else (numbered (bs ++ b ∷ []) (length (bs ++ b ∷ []))) no_birth ≡ b
newest-born bs b = ap (λ n. or_else (numbered (bs ++ b ∷ []) n) no_birth) (count-born bs b) ∙ ap (λ o. or_else o no_birth) (numbered-newest bs b)

-- ---- documents

pub made-append : (doc : Doc) (us vs : List Rev) → made doc (us ++ vs) ≡ made (made doc us) vs
made-append doc [] vs = refl
made-append doc (u ∷ us) vs = made-append (apply u.change.edit doc) us vs

take-drop : (n : ℕ) (vs : List Rev) → take n vs ++ drop n vs ≡ vs
take-drop zero vs = refl
take-drop (suc n) [] = refl
take-drop (suc n) (v ∷ vs) = ap (λ ws. v ∷ ws) (take-drop n vs)

-- the revisions behind the first ones lead to the last document
pub leads-on : (n : ℕ) (vs : List Rev) → made (made newline (take n vs)) (drop n vs) ≡ made newline vs
leads-on n vs = sym (made-append newline (take n vs) (drop n vs)) ∙ ap (made newline) (take-drop n vs)

-- the document of a birth's head, revision 0 among its revisions
pub last-of : (b : Birth) → made newline (b.first ∷ b.later) ≡ head_doc b
last-of b = ap (made (first_doc b)) (sym (take_all (length b.later) b.later (omega arith)))

-- the last of a birth's revisions, by its place
pub at-last : (v : Rev) (vs : List Rev) → at (v ∷ vs) (length vs) ≡ Some (last_rev v vs)
at-last v [] = refl
at-last v (w ∷ vs) = at-last w vs

-- ---- sound pads

pub entered-sound : (p : PadState) (author : Text) (read_only : Bool) → IsSoundPad p → p.present ≡ true → IsSoundPad (with_session p author read_only)
entered-sound p author read_only s t = record { births = s.births; present = s.present; absent = λ f. absurd (subst T (sym t ∙ f) tt) }

pub left-sound : (p : PadState) (s : Session) → IsSoundPad p → p.present ≡ true → IsSoundPad (leave p s)
left-sound p s sound t = record { births = sound.births; present = sound.present; absent = λ f. absurd (subst T (sym t ∙ f) tt) }

-- where a session is live the pad is there
pub live-there : (p : PadState) (s : Session) → IsSoundPad p → dead_fault p s ≡ None → p.present ≡ true
live-there p s sound d = go (seat_of p s) refl d
  where
    alive : (o : Option Why) → dead_if o ≡ None → o ≡ None
    alive None e = refl
    alive (Some why) e = none_some (sym e)

    go : (o : Option Seat) → seat_of p s ≡ o → dead_if (end_of p.epoch o) ≡ None → p.present ≡ true
    go None f e = none_some (sym e)
    go (Some l) f e = live-present p s l sound f (alive l.end e)

pub revs-sound : (p : PadState) (by : By) (c : Change) → IsSoundPad p → p.present ≡ true → Fits c (head_doc (newest p)) → is_edit c.edit ≡ true
    → IsSoundPad (with_revs p (step_revs by c.edit (head_doc (newest p))))
revs-sound p by c s t f e =
    next-sound p (record_of.Rev by.session by.time by.author (lacks_newline (apply c.edit (head_doc (newest p)))) c) s (t, f, e, refl)

pub nops-sound : (p : PadState) (x : Nop) → IsSoundPad p → p.present ≡ true → x.rev ≡ head (newest p) → IsSoundPad (with_nops p (x ∷ []))
nops-sound p x s t r = subst (λ n. IsSoundPad (with_nops p (record { session = x.session; time = x.time; rev = n } ∷ []))) (sym r) (next-sound p (record_of.Nop x.session x.time) s t)

pub deleted-sound : (p : PadState) → IsSoundPad p → p.present ≡ true → IsSoundPad (delete p)
deleted-sound p s t = next-sound p (record_of.Delete 0) s t

pub public-sound : (p : PadState) (on : Bool) → IsSoundPad p → p.present ≡ true → IsSoundPad (set_public p on)
public-sound p on s t = next-sound p (record_of.Public on) s t

-- ---- who logs in to a pad that is made

pub welcome-first : (p : PadState) (g : Grant) (now : ℕ) (doc : Doc) → doc ≡ made newline (first_rev now [] ∷ [])
    → record { session = next_session p; birth = suc (length p.births); rev = 0; doc = doc; author = g.author; read_only = g.read_only; time = now } ≡ welcome (create p now []) g
welcome-first p g now doc e =
    ap told e ∙ sym (λ i. told_of (newest-born p.births b i) (count-born p.births b i))
  where
    b : Birth
    b = record { first = first_rev now []; later = []; nops = [] }

    told : Doc → Welcome
    told doc = record { session = next_session p; birth = suc (length p.births); rev = 0; doc = doc; author = g.author; read_only = g.read_only; time = now }

    told_of : Birth → ℕ → Welcome
    told_of c n = record { session = next_session p; birth = n; rev = head c; doc = head_doc c; author = g.author; read_only = g.read_only; time = edited c }
