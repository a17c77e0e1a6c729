-- Lines that are read of a source, and what comes of them.
use Rattle.std.proofs.Common.{◌≡◌, ℕ, suc, add-one, true≢false, rules, ◌+◌, true, false, List, [], ◌∷◌, ◌++◌, Option, Some, None, refl, sym, ap, ◌∙◌, subst, append_assoc, append-nil, inl, inr}
use Rattle.std.specs.Prelude.{IfSome, Result, Ok, Err, if◌then◌else◌}
use Rattle.ep_history.specs.Kept.{KeptClient}
use Rattle.ep_link.specs.Traffic.{Adds}
use Rattle.ep_link.specs.declared.passed.Passed.{Passed}
use Rattle.ep_outside.specs.Outside.{IsAtEnd}
use Rattle.ep_script.specs.Lines.{Row, rows_of, said}
use Rattle.ep_script.specs.Script.{MayFollow, Unread, is_long, width}
use Rattle.ep_script.specs.declared.script.ScriptLine.{ScriptLine}
use Rattle.ep_script.specs.declared.script.ScriptLine.TheVariants as script
use Rattle.ep_peer.specs.Cuts.{AreCut, Cut, Line, Long, Nexts, cut_of, cuts_at, cuts_of}
use Rattle.ep_peer.specs.Parts.{Done, IsQuiet, Performs}
use Rattle.ep_peer.specs.Writer.{Did, Said, Unsaid, Gave, Understood, Lined, Unlined, Over, IsOver, Stand, Outcome, Goes, Ends, Runs, Reading, lined, lines_of, stops, traffic_of, written}
use Rattle.ep_peer.specs.Writes.{AreLines, EndsSo, Writes}
use Rattle.ep_peer.specs.declared.bad.PeerBad.{PeerBad}
use Rattle.ep_peer.specs.declared.bad.PeerBad.TheVariants as bad
use Rattle.ep_peer.specs.declared.bad.Reason.TheVariants as reason
use Rattle.ep_peer.specs.declared.writer.Written.{Written}
use Rattle.ep_peer.proofs.Parting.{adds_nothing, lines_on, runs_on, traffic_both}

-- ---- logs without an end of the source

-- the source has not told its end
abbrev pub IsOpen : List Did → Type 0
IsOpen [] = Unit {0}
IsOpen (Over ∷ log) = ⊥
IsOpen (d ∷ log) = IsOpen log

pub open_quiet : (a : List Did) → IsQuiet a → IsOpen a
open_quiet [] h = tt
open_quiet (Said m ∷ a) h = open_quiet a h
open_quiet (Unsaid n ∷ a) h = open_quiet a h
open_quiet (Gave g n ∷ a) h = open_quiet a h
open_quiet (Understood text r ∷ a) h = open_quiet a h
open_quiet (Lined c ∷ a) h = absurd h
open_quiet (Unlined n ∷ a) h = absurd h
open_quiet (Over ∷ a) h = absurd h

pub open_on : (a b : List Did) → IsOpen a → IsOpen b → IsOpen (a ++ b)
open_on [] b h k = k
open_on (Said m ∷ a) b h k = open_on a b h k
open_on (Unsaid n ∷ a) b h k = open_on a b h k
open_on (Gave g n ∷ a) b h k = open_on a b h k
open_on (Understood text r ∷ a) b h k = open_on a b h k
open_on (Lined c ∷ a) b h k = open_on a b h k
open_on (Unlined n ∷ a) b h k = open_on a b h k
open_on (Over ∷ a) b h k = absurd h

pub open_not : (a : List Did) → IsOpen a → IsOver a → ⊥
open_not [] h k = k
open_not (Said m ∷ a) h k = open_not a h k
open_not (Unsaid n ∷ a) h k = open_not a h k
open_not (Gave g n ∷ a) h k = open_not a h k
open_not (Understood text r ∷ a) h k = open_not a h k
open_not (Lined c ∷ a) h k = open_not a h k
open_not (Unlined n ∷ a) h k = open_not a h k
open_not (Over ∷ a) h k = h

over_behind : (a b : List Did) → IsOpen a → IsOver (a ++ b) → IsOver b
over_behind [] b h k = k
over_behind (Said m ∷ a) b h k = over_behind a b h k
over_behind (Unsaid n ∷ a) b h k = over_behind a b h k
over_behind (Gave g n ∷ a) b h k = over_behind a b h k
over_behind (Understood text r ∷ a) b h k = over_behind a b h k
over_behind (Lined c ∷ a) b h k = over_behind a b h k
over_behind (Unlined n ∷ a) b h k = over_behind a b h k
over_behind (Over ∷ a) b h k = absurd h

pub lines_quiet : (a : List Did) → IsQuiet a → lines_of a ≡ []
lines_quiet [] h = refl
lines_quiet (Said m ∷ a) h = lines_quiet a h
lines_quiet (Unsaid n ∷ a) h = lines_quiet a h
lines_quiet (Gave g n ∷ a) h = lines_quiet a h
lines_quiet (Understood text r ∷ a) h = lines_quiet a h
lines_quiet (Lined c ∷ a) h = absurd h
lines_quiet (Unlined n ∷ a) h = absurd h
lines_quiet (Over ∷ a) h = absurd h

-- ---- what a source gives

-- something may follow
some_more : (u : Unread) (a : Option (List ℕ)) → (u.is_over ≡ true → IsAtEnd a) → (more : List ℕ) × MayFollow u a more
some_more u None h = ([], record { over = λ o. refl; told = tt })
some_more u (Some xs) h = (xs, record { over = h; told = refl })

-- these were read of a source that had this
abbrev HasLines : Option (List ℕ) → List Cut → List Cut → Type 0
HasLines left cuts rest = (text : List ℕ) × IfSome left (λ bytes. text ≡ bytes) × (cuts_of text ≡ cuts ++ rest)

pub cut_first : (left : Option (List ℕ)) (u : Unread) → u.held ≡ [] → u.place ≡ 0 → AreCut left u left []
cut_first None u held place more m = (more, tt, sym (ap (λ p. cuts_at p (rows_of (u.held ++ more))) place ∙ ap (λ h. cuts_at 0 (rows_of (h ++ more))) held))
cut_first (Some xs) u held place more m = (more, m.told, sym (ap (λ p. cuts_at p (rows_of (u.held ++ more))) place ∙ ap (λ h. cuts_at 0 (rows_of (h ++ more))) held))

-- the first row of those that are left
cuts_line : (place next : ℕ) (row : Row) (rows : List Row) (bytes : List ℕ) → is_long place row ≡ false → bytes ≡ said row → next ≡ place + width row → cuts_at place (row ∷ rows) ≡ Line bytes ∷ cuts_at next rows
cuts_line place next row rows bytes short is at =
    ap (λ b. if b then Long ∷ [] else Line (said row) ∷ cuts_at (place + width row) rows) short
    ∙ (ap (λ s. Line s ∷ cuts_at (place + width row) rows) (sym is) ∙ ap (λ p. Line bytes ∷ cuts_at p rows) (sym at))

cuts_long : (place : ℕ) (row : Row) (rows : List Row) → is_long place row ≡ true → cuts_at place (row ∷ rows) ≡ Long ∷ []
cuts_long place row rows long = ap (λ b. if b then Long ∷ [] else Line (said row) ∷ cuts_at (place + width row) rows) long

-- one line more
push : (cuts : List Cut) (c : Cut) (rest all : List Cut) → all ≡ cuts ++ c ∷ rest → all ≡ (cuts ++ c ∷ []) ++ rest
push cuts c rest all h = h ∙ sym (append_assoc cuts (c ∷ []) rest)

abbrev IsShort : ScriptLine → Type 0
IsShort (script.Text bytes) = Unit {0}
IsShort script.Long = ⊥

-- behind a line that is none too long
pub cut_next : (left : Option (List ℕ)) (u v : Unread) (a b : Option (List ℕ)) (cuts : List Cut) (line : ScriptLine) → AreCut left u a cuts → Nexts u v a b (Ok (Some line)) → IsShort line → AreCut left v b (cuts ++ cut_of line ∷ [])
cut_next left u v a b cuts (script.Text bytes) h (piece, gives, n) short more m =
    let x = n more m in
    let w = h (piece ++ more) x.0 in
    let i = x.1 in (
      w.0,
      w.1,
      push cuts (Line bytes.items) (cuts_at v.place (rows_of (v.held ++ more))) (cuts_of w.0)
          (w.2 ∙ ap (λ r. cuts ++ r) (ap (cuts_at u.place) i.1 ∙ cuts_line u.place v.place i.0 (rows_of (v.held ++ more)) bytes.items i.2 i.3 i.4)),
    )
cut_next left u v a b cuts script.Long h n short more m = absurd short

-- whatever line came
has_next : (left : Option (List ℕ)) (u v : Unread) (a b : Option (List ℕ)) (cuts : List Cut) (line : ScriptLine) → AreCut left u a cuts → Nexts u v a b (Ok (Some line)) → (v.is_over ≡ true → IsAtEnd b) → (rest : List Cut) × HasLines left (cuts ++ cut_of line ∷ []) rest
has_next left u v a b cuts (script.Text bytes) h n over =
    let m = some_more v b over in
    (cuts_at v.place (rows_of (v.held ++ m.0)), cut_next left u v a b cuts (script.Text bytes) h n tt m.0 m.1)
has_next left u v a b cuts script.Long h (piece, gives, n) over =
    let m = some_more v b over in
    let x = n m.0 m.1 in
    let w = h (piece ++ m.0) x.0 in
    let i = x.1 in
    ([], (w.0, w.1, push cuts Long [] (cuts_of w.0) (w.2 ∙ ap (λ r. cuts ++ r) (ap (cuts_at u.place) i.2 ∙ cuts_long u.place i.0 i.1 i.3))))

-- so far
has_now : (left : Option (List ℕ)) (u : Unread) (a : Option (List ℕ)) (cuts : List Cut) → AreCut left u a cuts → (u.is_over ≡ true → IsAtEnd a) → (rest : List Cut) × HasLines left cuts rest
has_now left u a cuts h over = let m = some_more u a over in (cuts_at u.place (rows_of (u.held ++ m.0)), h m.0 m.1)

-- no line is left
has_all : (left : Option (List ℕ)) (u v : Unread) (a b : Option (List ℕ)) (cuts : List Cut) → AreCut left u a cuts → Nexts u v a b (Ok None) → (v.is_over ≡ true → IsAtEnd b) → HasLines left cuts []
has_all left u v a b cuts h (piece, gives, n) over =
    let m = some_more v b over in
    let x = n m.0 m.1 in
    let w = h (piece ++ m.0) x.0 in
    (w.0, w.1, w.2 ∙ ap (λ bs. cuts ++ cuts_at u.place (rows_of bs)) x.1)

empty_behind : (xs ys zs : List ℕ) → xs ++ (ys ++ zs) ≡ [] → zs ≡ []
empty_behind [] [] zs e = e
empty_behind [] (y ∷ ys) zs e = cc
empty_behind (x ∷ xs) ys zs e = cc

-- then the source is at its end
pub at_end : (u v : Unread) (a b : Option (List ℕ)) → Nexts u v a b (Ok None) → (v.is_over ≡ true → IsAtEnd b) → IsAtEnd b
at_end u v a None n over = tt
at_end u v a (Some ys) (piece, gives, n) over = empty_behind u.held piece ys (n ys (record { over = over; told = refl })).1

-- ---- the loop over the lines

-- what was done so far, and how the source and the script stand
pub record SoFar (sent0 sent1 : Option (List Passed)) (left : Option (List ℕ)) (u : Unread) (a : Option (List ℕ)) (from : Outcome) (k : KeptClient) (line : ℕ) : Type 0 where
  pub log : List Did
  pub n : ℕ
  pub at : suc n ≡ line
  pub traffic : Adds sent0 sent1 (traffic_of log)
  pub lines : AreCut left u a (lines_of log)
  pub still : IsOpen log
  pub over : u.is_over ≡ true → IsAtEnd a
  pub runs : Runs from log (Goes (Reading n k))

pub so_far : (x : Option (List Passed)) (left : Option (List ℕ)) (u : Unread) (k : KeptClient) → u.held ≡ [] → u.place ≡ 0 → u.is_over ≡ false → SoFar x x left u left (Goes (Reading 0 k)) k 1
so_far x left u k held place over = record {
  log = [];
  n = 0;
  at = refl;
  traffic = adds_nothing x;
  lines = cut_first left u held place;
  still = tt;
  over = λ o. absurd (true≢false (sym o ∙ over));
  runs = refl;
}

-- a line, and what comes of it
lined_traffic : (x y z : Option (List Passed)) (a : List Did) (c : Cut) (b : List Did) → Adds x y (traffic_of a) → Adds y z (traffic_of b) → Adds x z (traffic_of (a ++ Lined c ∷ b))
lined_traffic x y z a c b h k = traffic_both x y z a (Lined c ∷ b) h k

lined_lines : (a : List Did) (c : Cut) (b : List Did) → IsQuiet b → lines_of (a ++ Lined c ∷ b) ≡ lines_of a ++ c ∷ []
lined_lines a c b q = lines_on a (Lined c ∷ b) ∙ ap (λ t. lines_of a ++ c ∷ t) (lines_quiet b q)

lined_runs : (from : Outcome) (a : List Did) (n : ℕ) (k : KeptClient) (c : Cut) (b : List Did) (out : Outcome) → Runs from a (Goes (Reading n k)) → Runs (lined (suc n) k c) b out → Runs from (a ++ Lined c ∷ b) out
lined_runs from a n k c b out r s = runs_on from a (Goes (Reading n k)) (Lined c ∷ b) out r (lined (suc n) k c, inl (c, refl, refl), s)

-- a writer that has ended does nothing more
ended_not : (r : Result Written PeerBad) (log : List Did) (s : Stand) → Runs (Ends r) log (Goes s) → ⊥
ended_not r [] s h = search rules
ended_not r (d ∷ log) s h = h

-- the lines of a log, where the source has not told its end
lines_still : (left : Option (List ℕ)) (cuts : List Cut) (log : List Did) → lines_of log ≡ cuts → IsOpen log → (rest : List Cut) × HasLines left cuts rest → AreLines left log
lines_still left cuts log is still (rest, (text, told, cut)) = record { text = text; rest = rest; told = told; cut = cut ∙ ap (λ l. l ++ rest) (sym is); over = λ o. absurd (open_not log still o) }

module _ (x y z : Option (List Passed)) (left : Option (List ℕ)) (u v : Unread) (a b : Option (List ℕ)) (from : Outcome) (k : KeptClient) (line : ℕ) (s : SoFar x y left u a from k line) where
  from_line : {X : Type 0} (c : Cut) (log : List Did) (r : Result X PeerBad) (to : X → Outcome) → Performs (lined line k c) log r to → Performs (lined (suc s.n) k c) log r to
  from_line c log r to p = subst (λ m. Performs (lined m k c) log r to) (sym s.at) p

  goes_text : (new : KeptClient) (text : ScriptLine) → IsShort text → Nexts u v a b (Ok (Some text)) → (v.is_over ≡ true → IsAtEnd b) → Done {X = Unit {0}} y z (lined line k (cut_of text)) (Ok tt) (λ _. Goes (Reading line new)) → SoFar x z left v b from new (line + 1)
  goes_text new text short n over d =
      let c = cut_of text in
      record {
        log = s.log ++ Lined c ∷ d.log;
        n = line;
        at = sym (add-one line);
        traffic = lined_traffic x y z s.log c d.log s.traffic d.traffic;
        lines = subst (AreCut left v b) (sym (lined_lines s.log c d.log d.quiet)) (cut_next left u v a b (lines_of s.log) text s.lines n short);
        still = open_on s.log (Lined c ∷ d.log) s.still (open_quiet d.log d.quiet);
        over = over;
        runs = lined_runs from s.log s.n k c d.log (Goes (Reading line new)) s.runs (from_line {X = Unit {0}} c d.log (Ok tt) (λ _. Goes (Reading line new)) d.performs);
      }

  -- a line was written
  pub goes_far : (new : KeptClient) (text : ScriptLine) → Nexts u v a b (Ok (Some text)) → (v.is_over ≡ true → IsAtEnd b) → Done {X = Unit {0}} y z (lined line k (cut_of text)) (Ok tt) (λ _. Goes (Reading line new)) → SoFar x z left v b from new (line + 1)
  goes_far new (script.Text bytes) n over d = goes_text new (script.Text bytes) tt n over d
  goes_far new script.Long n over d = absurd (ended_not (Err (bad.Script line reason.Long)) d.log (Reading line new) d.performs)

  -- it ended in a line
  pub ends_in : {Y : Type 0} (text : ScriptLine) (e : PeerBad) (to : Unit {0} → Outcome) (r : Result Y PeerBad) (f : Y → Written) → Nexts u v a b (Ok (Some text)) → (v.is_over ≡ true → IsAtEnd b)
      → Done {X = Unit {0}} y z (lined line k (cut_of text)) (Err e) to → r ≡ Err e → Writes x z left from r f
  ends_in {Y = Y} text e to r f n over d is =
      let c = cut_of text in
      let p = from_line {X = Unit {0}} c d.log (Err e) to d.performs in
      subst (λ r. Writes {X = Y} x z left from r f) (sym is) (record {
        log = s.log ++ Lined c ∷ d.log;
        traffic = lined_traffic x y z s.log c d.log s.traffic d.traffic;
        lines = lines_still left (lines_of s.log ++ c ∷ []) (s.log ++ Lined c ∷ d.log) (lined_lines s.log c d.log d.quiet) (open_on s.log (Lined c ∷ d.log) s.still (open_quiet d.log d.quiet)) (has_next left u v a b (lines_of s.log) text s.lines n over);
        out = p.0;
        runs = lined_runs from s.log s.n k c d.log p.0 s.runs p.1;
        ends = p.2;
      })

  -- no line was left
  pub ends_well : (f : Unit {0} → Written) → f tt ≡ written k → Nexts u v a b (Ok None) → (v.is_over ≡ true → IsAtEnd b) → Writes {X = Unit {0}} x y left from (Ok tt) f
  ends_well f is n over =
      let all = has_all left u v a b (lines_of s.log) s.lines n over in
      record {
        log = s.log ++ Over ∷ [];
        traffic = traffic_both x y y s.log (Over ∷ []) s.traffic (adds_nothing y);
        lines = record { text = all.0; rest = []; told = all.1; cut = all.2 ∙ ap (λ l. l ++ []) (sym (append-nil (lines_of s.log)) ∙ sym (lines_on s.log (Over ∷ []))); over = λ o. refl };
        out = Ends (Ok (written k));
        runs = runs_on from s.log (Goes (Reading s.n k)) (Over ∷ []) (Ends (Ok (written k))) s.runs (Ends (Ok (written k)), inr (inl (refl, refl)), refl);
        ends = ap (λ w. Ends (Ok w)) (sym is);
      }

  -- memory ran out before the next line
  pub ends_short : {Y : Type 0} (r : Result Y PeerBad) (f : Y → Written) → r ≡ Err bad.NoMemory → Writes x y left from r f
  ends_short {Y = Y} r f is = subst (λ r. Writes {X = Y} x y left from r f) (sym is) (record {
    log = s.log;
    traffic = s.traffic;
    lines = lines_still left (lines_of s.log) s.log refl s.still (has_now left u a (lines_of s.log) s.lines s.over);
    out = Goes (Reading s.n k);
    runs = s.runs;
    ends = inr refl;
  })

  -- the source isn't read on
  pub ends_unread : {Y : Type 0} (e : PeerBad) (r : Result Y PeerBad) (f : Y → Written) → Nexts u v a b (Err e) → r ≡ Err e → Writes x y left from r f
  ends_unread e r f (inl short) is = ends_short r f (is ∙ ap Err short)
  ends_unread {Y = Y} e r f (inr (n, fault)) is = subst (λ r. Writes {X = Y} x y left from r f) (sym (is ∙ ap Err fault)) (record {
    log = s.log ++ Unlined n ∷ [];
    traffic = traffic_both x y y s.log (Unlined n ∷ []) s.traffic (adds_nothing y);
    lines = lines_still left (lines_of s.log) (s.log ++ Unlined n ∷ []) (lines_on s.log (Unlined n ∷ []) ∙ append-nil (lines_of s.log)) (open_on s.log (Unlined n ∷ []) s.still tt) (has_now left u a (lines_of s.log) s.lines s.over);
    out = stops (bad.SourceFault n);
    runs = runs_on from s.log (Goes (Reading s.n k)) (Unlined n ∷ []) (stops (bad.SourceFault n)) s.runs (stops (bad.SourceFault n), inr (inr (n, refl, refl)), refl);
    ends = inl refl;
  })

-- ---- a whole writer

-- lines of a log behind what asked nothing of the source
lines_behind : (left : Option (List ℕ)) (a b : List Did) → IsQuiet a → AreLines left b → AreLines left (a ++ b)
lines_behind left a b q l = record { text = l.text; rest = l.rest; told = l.told; cut = l.cut ∙ ap (λ c. c ++ l.rest) (sym (lines_on a b ∙ ap (λ c. c ++ lines_of b) (lines_quiet a q))); over = λ o. l.over (over_behind a b (open_quiet a q) o) }

pub writes_behind : {X Y : Type 0} (x y z : Option (List Passed)) (left : Option (List ℕ)) (from : Outcome) (v : X) (to : X → Outcome) (r : Result Y PeerBad) (f : Y → Written) → Done x y from (Ok v) to → Writes y z left (to v) r f → Writes x z left from r f
writes_behind x y z left from v to r f d w = record {
  log = d.log ++ w.log;
  traffic = traffic_both x y z d.log w.log d.traffic w.traffic;
  lines = lines_behind left d.log w.log d.quiet w.lines;
  out = w.out;
  runs = runs_on from d.log (to v) w.log w.out d.performs w.runs;
  ends = w.ends;
}

-- nothing was read
lines_none : (left : Option (List ℕ)) (log : List Did) → IsQuiet log → AreLines left log
lines_none None log q = record { text = []; rest = []; told = tt; cut = sym (ap (λ l. l ++ []) (lines_quiet log q)); over = λ o. refl }
lines_none (Some xs) log q = record { text = xs; rest = cuts_of xs; told = refl; cut = sym (ap (λ l. l ++ cuts_of xs) (lines_quiet log q)); over = λ o. absurd (open_not log (open_quiet log q) o) }

pub writes_ended : {X Y : Type 0} (x y : Option (List Passed)) (left : Option (List ℕ)) (from : Outcome) (q : Result X PeerBad) (to : X → Outcome) (r : Result Y PeerBad) (f : Y → Written) (e : PeerBad) → q ≡ Err e → r ≡ Err e → Done x y from q to → Writes x y left from r f
writes_ended {X = X} {Y = Y} x y left from q to r f e was is d =
    let p : Performs {X = X} from d.log (Err e) to = subst (λ q. Performs from d.log q to) was d.performs in
    subst (λ r. Writes {X = Y} x y left from r f) (sym is) (record { log = d.log; traffic = d.traffic; lines = lines_none left d.log d.quiet; out = p.0; runs = p.1; ends = p.2 })

ends_as : {X Y : Type 0} (out : Outcome) (q : Result X PeerBad) (f : X → Written) (r : Result Y PeerBad) (g : Y → Written) (e : PeerBad) → q ≡ Err e → r ≡ Err e → EndsSo out q f → EndsSo out r g
ends_as {X = X} {Y = Y} out q f r g e was is h =
    let w : EndsSo {X = X} out (Err e) f = subst (λ q. EndsSo out q f) was h in
    subst (λ r. EndsSo {X = Y} out r g) (sym is) w

-- what it answers doesn't count where it ended
pub writes_refused : {X Y : Type 0} (x y : Option (List Passed)) (left : Option (List ℕ)) (from : Outcome) (q : Result X PeerBad) (f : X → Written) (r : Result Y PeerBad) (g : Y → Written) (e : PeerBad) → q ≡ Err e → r ≡ Err e → Writes x y left from q f → Writes x y left from r g
writes_refused x y left from q f r g e was is w = record { log = w.log; traffic = w.traffic; lines = w.lines; out = w.out; runs = w.runs; ends = ends_as w.out q f r g e was is w.ends }

-- all was written, and memory ran out behind it
pub writes_short : {X Y : Type 0} (x y : Option (List Passed)) (left : Option (List ℕ)) (from : Outcome) (q : Result X PeerBad) (f : X → Written) (r : Result Y PeerBad) (g : Y → Written) → r ≡ Err bad.NoMemory → Writes x y left from q f → Writes x y left from r g
writes_short {X = X} {Y = Y} x y left from q f r g is w = subst (λ r. Writes {X = Y} x y left from r g) (sym is) (record { log = w.log; traffic = w.traffic; lines = w.lines; out = w.out; runs = w.runs; ends = inr refl })

pub writes_as : {X Y : Type 0} (x y : Option (List Passed)) (left : Option (List ℕ)) (from : Outcome) (v : X) (f : X → Written) (w : Y) (g : Y → Written) → f v ≡ g w → Writes x y left from (Ok v) f → Writes x y left from (Ok w) g
writes_as x y left from v f w g is h = record { log = h.log; traffic = h.traffic; lines = h.lines; out = h.out; runs = h.runs; ends = h.ends ∙ ap (λ w. Ends (Ok w)) is }
