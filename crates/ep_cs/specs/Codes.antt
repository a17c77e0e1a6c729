-- Codes of edits and changes, by which they can be models' values.
use Rattle.std.specs.Prelude.{◌≡◌, ℕ, Bool, true, false, List, Option, Some, None, ◌⊎◌, refl}
use Rattle.std.proofs.Common.{inl, inr}
use Rattle.std.specs.Coded.{Coded, coded_ℕ, coded_bool, coded_list, coded×, coded⊎, coded_option, code_by}
use Rattle.ep_attr.specs.AttrMap.{AttrMap}
use Rattle.ep_attr.specs.Codes.{coded_map}
use Rattle.ep_cs.specs.Doc.{Cell}
use Rattle.ep_cs.specs.Edit.{Fate, Place, Edit, Step}
use Rattle.ep_cs.specs.Edit.Step.{Insert, Pass}
use Rattle.ep_cs.specs.Edit.Fate.{Drop, Keep}
use Rattle.ep_cs.specs.declared.op.Kind.{Kind}
use Rattle.ep_cs.specs.declared.op.Kind.TheVariants as kind
use Rattle.ep_cs.specs.declared.op.Op.{Op}
use Rattle.ep_cs.specs.Change.{Change}
use Rattle.ep_cs.specs.Draft.{Draft}

abbrev pub coded_cell : Coded Cell
coded_cell = code_by (ℕ × AttrMap) (coded× coded_ℕ coded_map) (λ c. (c.unit, c.attrs)) (λ p. record { unit = p.0; attrs = p.1 }) (λ _. refl)

abbrev pub fate_map : Fate → Option AttrMap
fate_map Drop = None
fate_map (Keep m) = Some m

abbrev pub map_fate : Option AttrMap → Fate
map_fate None = Drop
map_fate (Some m) = Keep m

pub map_fate_map : (f : Fate) → map_fate (fate_map f) ≡ f
map_fate_map Drop = refl
map_fate_map (Keep m) = refl

abbrev pub coded_fate : Coded Fate
coded_fate = code_by (Option AttrMap) (coded_option coded_map) fate_map map_fate map_fate_map

abbrev pub coded_place : Coded Place
coded_place = code_by (List Cell × Fate) (coded× (coded_list coded_cell) coded_fate) (λ p. (p.before, p.fate)) (λ p. record { before = p.0; fate = p.1 }) (λ _. refl)

abbrev pub coded_edit : Coded Edit
coded_edit = code_by (List Place × List Cell) (coded× (coded_list coded_place) (coded_list coded_cell)) (λ e. (e.places, e.last)) (λ p. record { places = p.0; last = p.1 }) (λ _. refl)

abbrev pub kind_bool : Kind → Option Bool
kind_bool kind.Keep = None
kind_bool kind.Drop = Some false
kind_bool kind.Insert = Some true

abbrev pub bool_kind : Option Bool → Kind
bool_kind None = kind.Keep
bool_kind (Some false) = kind.Drop
bool_kind (Some true) = kind.Insert

pub bool_kind_bool : (k : Kind) → bool_kind (kind_bool k) ≡ k
bool_kind_bool kind.Keep = refl
bool_kind_bool kind.Drop = refl
bool_kind_bool kind.Insert = refl

abbrev pub coded_kind : Coded Kind
coded_kind = code_by (Option Bool) (coded_option coded_bool) kind_bool bool_kind bool_kind_bool

abbrev pub coded_op : Coded Op
coded_op =
    code_by ((Kind × AttrMap) × (ℕ × ℕ)) (coded× (coded× coded_kind coded_map) (coded× coded_ℕ coded_ℕ))
    (λ o. ((o.kind, o.attrs), (o.units, o.lines))) (λ p. record { kind = p.0.0; units = p.1.0; lines = p.1.1; attrs = p.0.1 }) (λ _. refl)

abbrev pub coded_change : Coded Change
coded_change = code_by (Edit × List Op) (coded× coded_edit (coded_list coded_op)) (λ c. (c.edit, c.runs)) (λ p. record { edit = p.0; runs = p.1 }) (λ _. refl)

abbrev pub step_parts : Step → Cell ⊎ Fate
step_parts (Insert c) = inl c
step_parts (Pass f) = inr f

abbrev pub parts_step : Cell ⊎ Fate → Step
parts_step (inl c) = Insert c
parts_step (inr f) = Pass f

pub parts_step_parts : (s : Step) → parts_step (step_parts s) ≡ s
parts_step_parts (Insert c) = refl
parts_step_parts (Pass f) = refl

abbrev pub coded_steps : Coded (List Step)
coded_steps = coded_list (code_by (Cell ⊎ Fate) (coded⊎ coded_cell coded_fate) step_parts parts_step parts_step_parts)

abbrev pub coded_draft : Coded Draft
coded_draft =
    code_by (ℕ × (List Step × List ℕ)) (coded× coded_ℕ (coded× coded_steps (coded_list coded_ℕ)))
    (λ d. (d.old, (d.steps, d.marks))) (λ p. record { old = p.0; steps = p.1.0; marks = p.1.1 }) (λ _. refl)
