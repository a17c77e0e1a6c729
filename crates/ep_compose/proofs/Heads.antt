-- What the calls of a step need and do, said of the heads.
use Rattle.std.proofs.Common.{◌≡◌, ℕ, ◌+◌, ◌<◌, ◌≤◌, ◌^◌, List, [], ◌∷◌, ◌++◌, length, take, drop, sym, ap, ◌∙◌, subst, arith, take-take, append-nil}
use Rattle.std.proofs.lemmas.List.{length-take, length-take-le, length-map}
use Rattle.ep_units.specs.Text.{Text}
use Rattle.ep_attr.specs.AttrMap.{none, after}
use Rattle.ep_cs.specs.Edit.{inserts}
use Rattle.ep_cs.specs.Edit.Fate.{Drop, Keep}
use Rattle.ep_cs.specs.Steps.{passed}
use Rattle.ep_cs.specs.Draft.{Draft, inserted_by}
use Rattle.ep_cs.specs.Runs.{cells, inserted}
use Rattle.ep_cs.specs.Change.{newlines}
use Rattle.ep_cs.specs.NormalRuns.{IsLined}
use Rattle.ep_cs.specs.Written.{AreWritten}
use Rattle.ep_cs.specs.declared.op.Kind.TheVariants as kind
use Rattle.ep_cursor.specs.declared.cursor.Head.{Head}
use Rattle.ep_cursor.specs.Left.{Left, steps_left, first_lines, advanced}
use Rattle.ep_cursor.specs.Heads.{op_of, IsHead}
use Rattle.ep_cursor.specs.Said.{IsSaid, AreSaid}
use Rattle.ep_cursor.specs.Made.{text_made, given}
use Rattle.ep_cursor.proofs.Lined.{lined_within}
use Rattle.ep_cursor.proofs.Parts.{lines_wide, inside_first, piece}
use Rattle.ep_cursor.proofs.Lefts.{first_is, left_cut, first_said, first_written}
use Rattle.ep_cursor.proofs.Made.{given-append, given_kept, given_new, inserted_within, text_new}
use Rattle.ep_compose.specs.Composing.{CanGo, Advances}
use Rattle.ep_cursor.specs.Part.{IsShorter}
use Rattle.ep_compose.proofs.Arms.{times}
use Rattle.ep_compose.proofs.Claims.{made_parts, take_front}
use Rattle.ep_compose.proofs.Moves.{keeps, drops, inserting_run, made_keep, within_first_rest, within_second_rest, places_of_rest}
use Rattle.ep_compose.proofs.Boths.{front_lined}

-- the same, of what the calls told
pub moved : (out o o' : Draft) (a x x' b y y' : Left) → o' ≡ o → x' ≡ x → y' ≡ y → Advances out a b o x y → Advances out a b o' x' y'
moved out o o' a x x' b y y' eo ex ey h = subst (λ (p : Draft × (Left × Left)). Advances out a b p.0 p.1.0 p.1.1) (λ i. (sym eo i, (sym ex i, sym ey i))) h

-- where the places are that are not yet passed, in the text that shows that the composition can go on
abbrev pub witness : (out : Draft) (a b : Left) → CanGo out a b → Text
witness out a b go = drop (passed out.steps) go.text

said_lines : (n l : ℕ) (us : Text) → IsSaid n l us → l ≤ n
said_lines n l us h = omega (arith, lined_within l (take n us) h.1, length-take-le n us h.0)

lined_some : (l : ℕ) (ks : List ℕ) → IsLined l ks → 1 ≤ length ks
lined_some l [] h = absurd h
lined_some l (k ∷ ks) h = omega arith

said_some : (n l : ℕ) (us : Text) → IsSaid n l us → 1 ≤ n
said_some n l us h = omega (arith, lined_some l (newlines (take n us)) h.1, lines_wide n us h.0)

pub first_some : (out : Draft) (a b : Left) (h : Head) → IsHead h a → CanGo out a b → 1 ≤ h.units
first_some out a b h is go = said_some h.units h.lines _ (first_said a (op_of h) (drop 1 a.ops) _ is.first go.trues.first)

pub second_some : (out : Draft) (a b : Left) (g : Head) → IsHead g b → CanGo out a b → 1 ≤ g.units
second_some out a b g is go = said_some g.units g.lines _ (first_said b (op_of g) (drop 1 b.ops) _ is.first go.trues.second)

pub kept_lines : (out : Draft) (a b : Left) (h : Head) → IsHead h a → h.kind ≡ kind.Keep → CanGo out a b → h.lines ≤ h.units
kept_lines out a b h is k go = said_lines h.units h.lines (witness out a b go) (first_said a (keeps h.units h.lines h.attrs.now) (drop 1 a.ops) _ (first_is h a kind.Keep is k) go.trues.first)

pub dropped_lines : (out : Draft) (a b : Left) (h : Head) → IsHead h a → h.kind ≡ kind.Drop → CanGo out a b → h.lines ≤ h.units
dropped_lines out a b h is k go = said_lines h.units h.lines (witness out a b go) (first_said a (drops h.units h.lines h.attrs.now) (drop 1 a.ops) _ (first_is h a kind.Drop is k) go.trues.first)

-- what a head of the second change says of the text before it
pub kept_says : (b : Left) (g : Head) → IsHead g b → g.kind ≡ kind.Keep → (z : Text) → AreSaid b.ops b.bank z → IsSaid g.units g.lines z
kept_says b g is k z said = first_said b (keeps g.units g.lines g.attrs.now) (drop 1 b.ops) z (first_is g b kind.Keep is k) said

pub dropped_says : (b : Left) (g : Head) → IsHead g b → g.kind ≡ kind.Drop → (z : Text) → AreSaid b.ops b.bank z → IsSaid g.units g.lines z
dropped_says b g is k z said = first_said b (drops g.units g.lines g.attrs.now) (drop 1 b.ops) z (first_is g b kind.Drop is k) said

pub later_lines : (out : Draft) (a b : Left) (g : Head) → ((z : Text) → AreSaid b.ops b.bank z → IsSaid g.units g.lines z) → CanGo out a b → g.lines ≤ g.units
later_lines out a b g says go = said_lines g.units g.lines _ (says _ go.trues.second)

-- ---- places

pub rest_is_kept : (out : Draft) (a b : Left) (g : Head) → a.ops ≡ [] → IsHead g b → g.kind ≡ kind.Keep → CanGo out a b → (g.units ≤ a.rest) × (passed out.steps + g.units ≤ out.old)
rest_is_kept out a b g e is k go =
    within_first_rest out a b g.units g.lines g.attrs.now (Keep g.attrs.now) _ e (left_cut b (keeps g.units g.lines g.attrs.now) (drop 1 b.ops) g.units g.lines (first_is g b kind.Keep is k) (omega arith)) go

pub rest_is_dropped : (out : Draft) (a b : Left) (g : Head) → a.ops ≡ [] → IsHead g b → g.kind ≡ kind.Drop → CanGo out a b → (g.units ≤ a.rest) × (passed out.steps + g.units ≤ out.old)
rest_is_dropped out a b g e is k go =
    within_first_rest out a b g.units g.lines g.attrs.now Drop _ e (left_cut b (drops g.units g.lines g.attrs.now) (drop 1 b.ops) g.units g.lines (first_is g b kind.Drop is k) (omega arith)) go

pub kept_into_rest : (out : Draft) (a b : Left) (h : Head) → b.ops ≡ [] → IsHead h a → h.kind ≡ kind.Keep → CanGo out a b → h.units ≤ b.rest
kept_into_rest out a b h e is k go =
    let n = h.units in
    omega (arith, given_kept n h.attrs.now, within_second_rest out a b (times n (Keep h.attrs.now)) _ e (left_cut a (keeps n h.lines h.attrs.now) (drop 1 a.ops) n h.lines (first_is h a kind.Keep is k) (omega arith)) go)

-- an inserted run, with its text
pub record IsNew (h : Head) (l : Left) : Type 0 where
  pub first : l.ops ≡ inserting_run h.units h.lines h.attrs.now ∷ drop 1 l.ops
  pub text : h.text.now ≡ take h.units l.bank
  pub long : length h.text.now ≡ h.units
  pub bare : h.attrs.now ≡ after none h.attrs.now
  pub full : h.units ≤ length l.bank

enough : (n : ℕ) (us : Text) → length (take n us) ≡ n → n ≤ length us
enough n us e = omega (arith, e, length-take n us)

pub new_head : (h : Head) (l : Left) → IsHead h l → h.kind ≡ kind.Insert → AreWritten l.ops l.bank → IsNew h l
new_head h l is k w =
    let e = first_is h l kind.Insert is k in
    let one = first_written l (inserting_run h.units h.lines h.attrs.now) (drop 1 l.ops) e w in
    let t : h.text.now ≡ take h.units l.bank = is.text ∙ ap (λ kd. take (inserted kd h.units) l.bank) k in
    record { first = e; text = t; long = ap length t ∙ one.0; bare = one.1; full = enough h.units l.bank one.0 }

-- all that is given by the steps of a run
new_given : (l : Left) (h : Head) → IsNew h l → given (steps_left l) ≡ h.units + given (steps_left (advanced h.units h.lines l))
new_given l h n =
    let cut = left_cut l (inserting_run h.units h.lines h.attrs.now) (drop 1 l.ops) h.units h.lines n.first (omega arith) in
    let cs = cells h.attrs.now (take h.units l.bank) in
    let wide : length cs ≡ h.units = length-map (take h.units l.bank) _ ∙ length-take-le h.units l.bank n.full in
    let one : given (inserts cs) ≡ h.units = given_new cs ∙ wide in
    omega (arith, ap given cut, given-append (inserts cs) (steps_left (advanced h.units h.lines l)), one)

pub inserted_into_rest : (out : Draft) (a b : Left) (h : Head) → b.ops ≡ [] → IsNew h a → CanGo out a b → h.units ≤ b.rest
inserted_into_rest out a b h e n go =
    let g : given (steps_left a) ≤ b.rest = within_second_rest out a b (steps_left a) [] e (sym (append-nil (steps_left a))) go in
    omega (arith, g, new_given a h n)

-- ---- room for what is inserted

pub room_for_second : (out : Draft) (a b : Left) (g : Head) → IsNew g b → CanGo out a b → inserted_by out.steps + length g.text.now < 2 ^ 32
room_for_second out a b g n go = omega (arith, inserted_within out.steps, go.short, new_given b g n, n.long)

pub room_for_rest : (out : Draft) (a b : Left) (h : Head) → b.ops ≡ [] → IsNew h a → CanGo out a b → inserted_by out.steps + length h.text.now < 2 ^ 32
room_for_rest out a b h e n go =
    let r : given (steps_left b) ≡ b.rest = (places_of_rest b e).1 in
    omega (arith, inserted_within out.steps, go.short, r, inserted_into_rest out a b h e n go, n.long)

pub room_for_kept : (out : Draft) (a b : Left) (g : Head) (k : ℕ) (text : Text) → IsHead g b → g.kind ≡ kind.Keep → k ≤ g.units → length text ≤ k → CanGo out a b → inserted_by out.steps + length text < 2 ^ 32
room_for_kept out a b g k text is e h l go =
    let cut = left_cut b (keeps g.units g.lines g.attrs.now) (drop 1 b.ops) k 0 (first_is g b kind.Keep is e) h in
    omega (arith, inserted_within out.steps, go.short, ap given cut, given-append (times k (Keep g.attrs.now)) (steps_left (advanced k 0 b)), given_kept k g.attrs.now, l)

-- ---- the shorter of two heads

-- so many newlines of so many units
pub record IsPart (k j : ℕ) (a b : Left) : Type 0 where
  pub lines : j ≤ k
  pub first : j ≤ first_lines a.ops
  pub second : j ≤ first_lines b.ops

part : (k j n lo m lp : ℕ) (us z : Text) (a b : Left) → IsShorter k j n lo m lp → IsSaid n lo us → IsSaid m lp z → take k us ≡ take k z → first_lines a.ops ≡ lo → first_lines b.ops ≡ lp → IsPart k j a b
part k j n lo m lp us z a b h said says same ea eb =
    let p = piece k j n lo m lp us z h said says same in
    let kn = inside_first k j n lo m lp h in
    let within : k ≤ length us = omega (arith, said.0, kn) in
    record {
      lines = omega (arith, lined_within j (take k us) (front_lined k j n lo m lp us z kn p), length-take-le k us within);
      first = omega (arith, p.first_within, ea);
      second = omega (arith, p.second_within, eb);
    }

pub kept_part : (out : Draft) (a b : Left) (h g : Head) (k j : ℕ) → IsHead h a → h.kind ≡ kind.Keep → IsHead g b → ((z : Text) → AreSaid b.ops b.bank z → IsSaid g.units g.lines z)
    → IsShorter k j h.units h.lines g.units g.lines → CanGo out a b → IsPart k j a b
kept_part out a b h g k j is e ig says s go =
    let w = witness out a b go in
    let run = keeps h.units h.lines h.attrs.now in
    let at = first_is h a kind.Keep is e in
    let said = first_said a run (drop 1 a.ops) w at go.trues.first in
    let kn = inside_first k j h.units h.lines g.units g.lines s in
    let within : k ≤ length w = omega (arith, said.0, kn) in
    let z : text_made (steps_left a) w ≡ take k w ++ text_made (steps_left (advanced k j a)) (drop (passed (times k (Keep h.attrs.now))) w) =
    made_parts a (advanced k j a) (times k (Keep h.attrs.now)) (take k w) w (left_cut a run (drop 1 a.ops) k j at kn) (made_keep k h.attrs.now w within) in
    part k j h.units h.lines g.units g.lines w (text_made (steps_left a) w) a b s said (says _ go.trues.second)
    (sym (ap (take k) z ∙ take_front (take k w) _ k (sym (length-take-le k w within)))) (ap first_lines is.first) (ap first_lines ig.first)

pub inserted_part : (out : Draft) (a b : Left) (h g : Head) (k j : ℕ) → IsNew h a → IsHead g b → ((z : Text) → AreSaid b.ops b.bank z → IsSaid g.units g.lines z)
    → IsShorter k j h.units h.lines g.units g.lines → CanGo out a b → IsPart k j a b
inserted_part out a b h g k j n ig says s go =
    let w = witness out a b go in
    let run = inserting_run h.units h.lines h.attrs.now in
    let said = first_said a run (drop 1 a.ops) w n.first go.trues.first in
    let kn = inside_first k j h.units h.lines g.units g.lines s in
    let within : k ≤ length a.bank = omega (arith, n.full, kn) in
    let new = inserts (cells h.attrs.now (take k a.bank)) in
    let z : text_made (steps_left a) w ≡ take k a.bank ++ text_made (steps_left (advanced k j a)) (drop (passed new) w) =
    made_parts a (advanced k j a) new (take k a.bank) w (left_cut a run (drop 1 a.ops) k j n.first kn) (text_new h.attrs.now (take k a.bank) _) in
    part k j h.units h.lines g.units g.lines a.bank (text_made (steps_left a) w) a b s said (says _ go.trues.second)
    (sym (ap (take k) z ∙ take_front (take k a.bank) _ k (sym (length-take-le k a.bank within)))) (ap first_lines n.first) (ap first_lines ig.first)

-- the text of the part
pub part_text : (h : Head) (l : Left) (k : ℕ) → IsNew h l → k ≤ h.units → take k h.text.now ≡ take k l.bank
part_text h l k n le = ap (take k) n.text ∙ take-take k h.units l.bank le

pub part_length : (us : Text) (k : ℕ) → length (take k us) ≤ k
part_length us k = omega (arith, length-take k us)
