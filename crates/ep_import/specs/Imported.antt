-- What a text is imported as.
use Rattle.std.specs.Prelude.{◌≡◌, ℕ, zero, suc, ◌-◌, Bool, true, false, if◌then◌else◌, ◌⊎◌, List, [], ◌∷◌, ◌++◌, length, codes, Option, Some, None, option_and_then, Result, Ok, Err, nat_lt}
use Rattle.std.specs.Option.{ok_or}
use Rattle.serde_json.specs.Data.{Data}
use Rattle.serde_json.specs.Find.{as_bool, as_str, get}
use Rattle.serde_json.specs.Read.{read}
use Rattle.ep_units.specs.Text.{Text}
use Rattle.ep_units.specs.Utf8.{units_of}
use Rattle.ep_units.specs.declared.session.Session.{Session}
use Rattle.ep_attr.specs.AttrMap.{Pair}
use Rattle.ep_pool.specs.declared.from_json.PoolBad.{PoolBad}
use Rattle.ep_cs.specs.Doc.{Doc}
use Rattle.ep_cs.specs.Change.{Change}
use Rattle.ep_csread.specs.Reading.{reading, reading_attribs}
use Rattle.ep_csread.specs.declared.bad.ReadBad.{ReadBad}
use Rattle.ep_apply.specs.Documents.{insertion}
use Rattle.ep_history.specs.declared.rev.Rev.{Rev}
use Rattle.ep_history.specs.History.{lacks_newline, made, newline}
use Rattle.ep_wire_words.specs.Members.{object_kind, whole}
use Rattle.ep_wire_words.specs.Sessions.{session}
use Rattle.ep_wire_words.specs.Pools.{IsPoolRead}
use Rattle.ep_import.specs.declared.bad.ImportBad.{ImportBad}
use Rattle.ep_import.specs.declared.bad.ImportBad.TheVariants as bad
use Rattle.ep_import.specs.declared.place.Place.{Place}
use Rattle.ep_import.specs.declared.place.Place.TheVariants as place
use Rattle.ep_import.specs.Answer.{Then, ◌>>=◌}
use Rattle.ep_export.specs.Keys.{pad_key, rev_key}
use Rattle.ep_replay.specs.Standing.{MayStand}

-- the member of that name, which must be there and of this kind
abbrev pub needed : {A : Type 0} → (Data → Option A) → List ℕ → Place → Data → Result A ImportBad
needed kind name p d = ok_or (option_and_then kind (get name d)) (bad.Shape p)

-- ---- what the pad is

pub record Front : Type 0 where
  pub pad : Data
  pub attribs : List ℕ
  pub text : List ℕ
  pub head : ℕ
  pub pool : Data

-- up to its pool
abbrev pub front_in : List ℕ → Data → Result Front ImportBad
front_in key d = do
  pad ← needed object_kind key place.Pad d
  atext ← needed object_kind (codes "atext") place.Atext pad
  attribs ← needed as_str (codes "attribs") place.Attribs atext
  text ← needed as_str (codes "text") place.Text atext
  head ← needed whole (codes "head") place.Head pad
  pool ← needed Some (codes "pool") place.Pool pad
  Ok (record { pad = pad; attribs = attribs; text = text; head = head; pool = pool })

abbrev pub public_in : Data → Result Bool ImportBad
public_in pad = needed as_bool (codes "publicStatus") place.PublicStatus pad

-- a value that is no pool is wrong as a whole
abbrev pub of_pool : {A : Type 0} → Result A PoolBad → Result A ImportBad
of_pool (Ok x) = Ok x
of_pool (Err why) = Err (bad.Shape place.Pool)

-- the pool is read, and then the rest with its pairs
abbrev pub WithPool : {A : Type 0} → Data → (List Pair → Result A ImportBad → Type 0) → Result A ImportBad → Type 0
WithPool pool Next answer = (pairs : Result (List Pair) PoolBad) × IsPoolRead pool pairs × Then (of_pool pairs) Next answer

-- ---- the revisions as they are written

pub record Row : Type 0 where
  pub changeset : List ℕ
  pub author : List ℕ
  pub session : Session
  pub time : ℕ

abbrev pub row_in : ℕ → Data → Result Row ImportBad
row_in n d = do
  changeset ← needed as_str (codes "changeset") (place.Changeset n) d
  meta ← needed object_kind (codes "meta") (place.Meta n) d
  author ← needed as_str (codes "author") (place.Author n) meta
  session ← needed session (codes "session") (place.Session n) meta
  time ← needed whole (codes "timestamp") (place.Timestamp n) meta
  Ok (record { changeset = changeset; author = author; session = session; time = time })

abbrev pub row_at : List ℕ → ℕ → Data → Result Row ImportBad
row_at key n d = needed object_kind (rev_key key n) (place.Rev n) d >>= λ rev. row_in n rev

-- so many of them, from n on
abbrev pub rows_from : List ℕ → Data → ℕ → ℕ → Result (List Row) ImportBad
rows_from key d n zero = Ok []
rows_from key d n (suc count) = do
  r ← row_at key n d
  rs ← rows_from key d (suc n) count
  Ok (r ∷ rs)

-- ---- the revisions

abbrev pub rev_with : Row → Result Change ReadBad → Option Rev
rev_with r (Ok c) = Some (record { change = c; author = units_of r.author; session = r.session; time = r.time })
rev_with r (Err why) = None

-- the revision that a row says with the pairs of a pool
abbrev pub rev_of : List Pair → Row → Option Rev
rev_of pairs r = rev_with r (reading pairs (units_of r.changeset))

-- a row says this revision, which may stand behind these
abbrev pub Stands : List Pair → List Rev → Row → Rev → Type 0
Stands pairs vs r v = (rev_of pairs r ≡ Some v) × MayStand vs v

abbrev pub StandsNone : List Pair → List Rev → Row → Type 0
StandsNone pairs vs r = (v : Rev) → Stands pairs vs r v → ⊥

-- the last leaves a final newline, or is refused
abbrev pub Ends : List Rev → Result (List Rev) ImportBad → Type 0
Ends vs answer =
    ((lacks_newline (made newline vs) ≡ false) × (answer ≡ Ok vs))
    ⊎ ((lacks_newline (made newline vs) ≡ true) × (answer ≡ Err (bad.Revision (length vs - 1))))

-- the revisions that rows say behind these, or the first that may not stand where it stands
abbrev pub Replays : List Pair → List Rev → List Row → Result (List Rev) ImportBad → Type 0
Replays pairs vs [] answer = Ends vs answer
Replays pairs vs (r ∷ rs) answer =
    ((v : Rev) × Stands pairs vs r v × Replays pairs (vs ++ v ∷ []) rs answer)
    ⊎ (StandsNone pairs vs r × (answer ≡ Err (bad.Revision (length vs))))

-- ---- the text

-- the text and its attributes are those of a document
abbrev pub IsText : List Pair → Front → Doc → Type 0
IsText pairs f doc = reading_attribs pairs (units_of f.text) (units_of f.attribs) ≡ Ok (insertion doc)

-- what a text says: all revisions of a birth, and whether anybody may enter
pub record Said : Type 0 where
  pub revs : List Rev
  pub public : Bool

-- the attributed text is the last document
abbrev pub Compares : List Pair → Front → Bool → List Rev → Result Said ImportBad → Type 0
Compares pairs f public vs answer =
    (IsText pairs f (made newline vs) × (answer ≡ Ok (record { revs = vs; public = public })))
    ⊎ ((IsText pairs f (made newline vs) → ⊥) × (answer ≡ Err bad.Replay))

-- ---- all of it

-- the rows are replayed, and then the text is compared
abbrev pub Told : Front → List Pair → Bool → List Row → Result Said ImportBad → Type 0
Told f pairs public rows answer = (revs : Result (List Rev) ImportBad) × Replays pairs [] rows revs × Then revs (Compares pairs f public) answer

-- what the rest says with the pairs of the pool
abbrev pub Rest : List ℕ → Data → Front → List Pair → Result Said ImportBad → Type 0
Rest key d f pairs answer = Then (public_in f.pad) (λ public. Then (rows_from key d 0 (suc f.head)) (Told f pairs public)) answer

abbrev pub ReadsObject : List ℕ → Data → Result Said ImportBad → Type 0
ReadsObject key d answer = Then (front_in key d) (λ f. WithPool f.pool (Rest key d f)) answer

-- so many bytes a text may have
abbrev pub most_bytes : ℕ
most_bytes = 268435456

abbrev pub json_in : List ℕ → Result Data ImportBad
json_in text = if nat_lt most_bytes (length text) then Err (bad.TooBig (length text)) else ok_or (read text) bad.NotJson

-- what a text is imported as, for a pad of this id
abbrev pub Imports : Text → List ℕ → Result Said ImportBad → Type 0
Imports id text answer = Then (json_in text) (ReadsObject (pad_key id)) answer
