-- The records of revisions, one after another.
use Rattle.std.proofs.Common.{◌≡◌, ℕ, ◌+◌, ◌<◌, ◌≤◌, Bool, true, false, nat_lt, if◌then◌else◌, List, [], ◌∷◌, ◌++◌, length, get_or, drop, refl, sym, ap, ◌∙◌, subst, append_assoc, arith, Option, Some, None}
use Rattle.std.proofs.lemmas.List.{append-nil, drop_all, drop_more}
use Rattle.std.proofs.lemmas.Bool.{cond-false}
use Rattle.ep_units.specs.Text.{Text}
use Rattle.ep_units.specs.Clean.{clean}
use Rattle.ep_cs.specs.Doc.{Doc}
use Rattle.ep_cs.specs.Edit.{apply}
use Rattle.ep_cs.specs.Fits.{Fits}
use Rattle.ep_cs.specs.Plain.{plain}
use Rattle.ep_cs.proofs.Splices.{length-splice}
use Rattle.ep_step.proofs.Uncut.{first-pairs}
use Rattle.ep_history.specs.History.{first_rev, lacks_newline, newline}
use Rattle.ep_history.specs.declared.record.Record.{Record}
use Rattle.ep_history.specs.declared.record.Record.TheVariants as record_of
use Rattle.ep_history.specs.declared.rev.Rev.{Rev}
use Rattle.ep_past.specs.Revisions.{AreLater, AreRevisions, IsFirst, text_in}
use Rattle.ep_past.specs.Records.{first_records, later_records, public_records, records_of}
use Rattle.ep_put.specs.Putting.{first_long, most_units}
use Rattle.ep_put.specs.Steps.{AllFit, IsTooLong, step_records}
use Rattle.ep_put.specs.declared.bad.PutBad.{PutBad}
use Rattle.ep_put.specs.declared.bad.PutBad.TheVariants as bad

-- ---- a birth's revisions fit

first_fits : (now : ℕ) (text : Text) → Fits (first_rev now text).change newline
first_fits now text = record { length = sym (length-splice 1 0 0 (plain (clean text)) (omega arith)); runs = refl; pairs = first-pairs (plain (clean text)) }

pub first_fit : (v : Rev) → IsFirst v → Fits v.change newline
first_fit v f = subst (λ (w : Rev). Fits w.change newline) (sym f.is) (first_fits v.time (text_in v))

pub later_fit : (time : ℕ) (doc : Doc) (vs : List Rev) → AreLater time doc vs → AllFit doc vs
later_fit time doc [] are = tt
later_fit time doc (v ∷ vs) are = (are.0.fits, later_fit v.time (apply v.change.edit doc) vs are.1)

pub all_fit : (v : Rev) (vs : List Rev) (begun doc : Doc) → AreRevisions (v ∷ vs) → begun ≡ newline → doc ≡ apply v.change.edit begun → AllFit doc vs
all_fit v vs begun doc are b d = subst (λ (k : Doc). AllFit k vs) (sym (d ∙ ap (apply v.change.edit) b)) (later_fit v.time (apply v.change.edit newline) vs are.1)

-- ---- one more

-- what is left of revisions, and the records of those before
pub record IsOnTheWay (first : Doc) (vs : List Rev) (begun : List Record) (doc : Doc) (out : List Record) (rest : List Rev) : Type 0 where
  pub records : out ++ later_records doc rest ≡ begun ++ later_records first vs
  pub long : first_long doc rest ≡ first_long first vs
  pub fit : AllFit doc rest

step_later : (doc : Doc) (v : Rev) (rest : List Rev) → later_records doc (v ∷ rest) ≡ step_records doc (apply v.change.edit doc) v ++ later_records (apply v.change.edit doc) rest
step_later doc v rest = go (lacks_newline doc)
  where
    after : Doc
    after = apply v.change.edit doc

    go : (b : Bool) → (if b then later_records after rest else record_of.Rev v.session v.time v.author (lacks_newline after) v.change ∷ later_records after rest)
        ≡ (if b then [] else record_of.Rev v.session v.time v.author (lacks_newline after) v.change ∷ []) ++ later_records after rest
    go true = refl
    go false = refl

pub way_on : (first : Doc) (vs : List Rev) (begun : List Record) (doc : Doc) (out : List Record) (v : Rev) (rest : List Rev) (next : Doc) (more : List Record) → IsOnTheWay first vs begun doc out (v ∷ rest)
    → next ≡ apply v.change.edit doc → nat_lt most_units (length (apply v.change.edit doc)) ≡ false → more ≡ out ++ step_records doc next v → IsOnTheWay first vs begun next more rest
way_on first vs begun doc out v rest next more w is short made =
    let after = apply v.change.edit doc in
    record {
      records =
          (λ i. made i ++ later_records (is i) rest) ∙ ap (λ (d : Doc). (out ++ step_records doc d v) ++ later_records after rest) is
          ∙ append_assoc out (step_records doc after v) (later_records after rest) ∙ ap (λ (l : List Record). out ++ l) (sym (step_later doc v rest)) ∙ w.records;
      long = ap (λ (d : Doc). first_long d rest) is ∙ sym (cond-false (nat_lt most_units (length after)) (Some (length after)) (first_long after rest) short) ∙ w.long;
      fit = subst (λ (d : Doc). AllFit d rest) (sym is) w.fit.1;
    }

pub way_at : (first : Doc) (vs : List Rev) (begun : List Record) (doc : Doc) (out : List Record) (i : ℕ) (v : Rev) → IsOnTheWay first vs begun doc out (drop i vs) → i < length vs → v ≡ get_or vs i v
    → IsOnTheWay first vs begun doc out (v ∷ drop (i + 1) vs)
way_at first vs begun doc out i v w l e = subst (λ (rest : List Rev). IsOnTheWay first vs begun doc out rest) (drop_more vs i v l ∙ ap (λ (x : Rev). x ∷ drop (i + 1) vs) (sym e)) w

-- all of them
pub way_done : (first : Doc) (vs : List Rev) (begun : List Record) (doc : Doc) (out : List Record) (i : ℕ) → IsOnTheWay first vs begun doc out (drop i vs) → length vs ≤ i → (out ≡ begun ++ later_records first vs) × (first_long first vs ≡ None)
way_done first vs begun doc out i w l =
    let e = subst (λ (rest : List Rev). IsOnTheWay first vs begun doc out rest) (drop_all i vs l) w in
    (sym (append-nil out) ∙ e.records, sym e.long)

-- a document that is too long
pub long_first : (doc : Doc) (v : Rev) (rest : List Rev) (why : PutBad) → IsTooLong (first_long doc (v ∷ [])) why → IsTooLong (first_long doc (v ∷ rest)) why
long_first doc v rest bad.Exists is = absurd is
long_first doc v rest (bad.TooLong n) is = go (nat_lt most_units (length (apply v.change.edit doc))) is
  where
    after : Doc
    after = apply v.change.edit doc

    go : (b : Bool) → (if b then Some (length after) else None) ≡ Some n → (if b then Some (length after) else first_long after rest) ≡ Some n
    go true e = e
    go false e = absurd (cc)
long_first doc v rest (bad.Full n) is = absurd is
long_first doc v rest (bad.Disk n) is = absurd is
long_first doc v rest bad.NoMemory is = tt

pub way_stops : (first : Doc) (vs : List Rev) (begun : List Record) (doc : Doc) (out : List Record) (v : Rev) (rest : List Rev) (why : PutBad) → IsOnTheWay first vs begun doc out (v ∷ rest) → IsTooLong (first_long doc (v ∷ [])) why
    → IsTooLong (first_long first vs) why
way_stops first vs begun doc out v rest why w is = subst (λ (o : Option ℕ). IsTooLong o why) w.long (long_first doc v rest why is)

-- the first document is too long
pub long_begun : (v : Rev) (vs : List Rev) (begun : Doc) (why : PutBad) → begun ≡ newline → IsTooLong (first_long begun (v ∷ [])) why → IsTooLong (first_long newline (v ∷ vs)) why
long_begun v vs begun why b is = long_first newline v vs why (subst (λ (d : Doc). IsTooLong (first_long d (v ∷ [])) why) b is)

first_short : (v : Rev) (vs : List Rev) (begun doc : Doc) → begun ≡ newline → doc ≡ apply v.change.edit begun → nat_lt most_units (length (apply v.change.edit begun)) ≡ false → first_long newline (v ∷ vs) ≡ first_long doc vs
first_short v vs begun doc b d short =
    let after = apply v.change.edit newline in
    let here : nat_lt most_units (length after) ≡ false = subst (λ (k : Doc). nat_lt most_units (length (apply v.change.edit k)) ≡ false) b short in
    cond-false (nat_lt most_units (length after)) (Some (length after)) (first_long after vs) here ∙ ap (λ (k : Doc). first_long k vs) (sym (d ∙ ap (apply v.change.edit) b))

-- one behind it is
pub long_behind : (v : Rev) (vs : List Rev) (begun doc : Doc) (why : PutBad) → begun ≡ newline → doc ≡ apply v.change.edit begun → nat_lt most_units (length (apply v.change.edit begun)) ≡ false → IsTooLong (first_long doc vs) why
    → IsTooLong (first_long newline (v ∷ vs)) why
long_behind v vs begun doc why b d short is = subst (λ (o : Option ℕ). IsTooLong o why) (sym (first_short v vs begun doc b d short)) is

-- none is
pub none_long : (v : Rev) (vs : List Rev) (begun doc : Doc) → begun ≡ newline → doc ≡ apply v.change.edit begun → nat_lt most_units (length (apply v.change.edit begun)) ≡ false → first_long doc vs ≡ None → first_long newline (v ∷ vs) ≡ None
none_long v vs begun doc b d short none = first_short v vs begun doc b d short ∙ none

pub all_of : (v : Rev) (vs : List Rev) (public : Bool) (begun doc : Doc) (first out all : List Record) → begun ≡ newline → doc ≡ apply v.change.edit begun → first ≡ first_records v → out ≡ first ++ later_records doc vs → all ≡ out ++ public_records public
    → all ≡ records_of v vs public
all_of v vs public begun doc first out all b d f o a =
    let is : doc ≡ apply v.change.edit newline = d ∙ ap (apply v.change.edit) b in
    a ∙ ap (λ (l : List Record). l ++ public_records public) (o ∙ (λ i. f i ++ later_records (is i) vs))
    ∙ append_assoc (first_records v) (later_records (apply v.change.edit newline) vs) (public_records public)
