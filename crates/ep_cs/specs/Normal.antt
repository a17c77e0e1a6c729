-- The runs of a change in normal form: what its normal spelling writes.
use Rattle.std.specs.Prelude.{ℕ, ◌+◌, Bool, true, false, cond, not, ◌&&◌, ◌||◌, List, [], ◌∷◌, nat_lt}
use Rattle.ep_units.specs.Text.{is_newline}
use Rattle.ep_attr.specs.AttrMap.{AttrMap, none, is_none, same_map}
use Rattle.ep_cs.specs.Doc.{Cell}
use Rattle.ep_cs.specs.Edit.{Fate, Place}
use Rattle.ep_cs.specs.Edit.Fate.{Drop, Keep}
use Rattle.ep_cs.specs.declared.op.Kind.{Kind}
use Rattle.ep_cs.specs.declared.op.Kind.TheVariants as kind
use Rattle.ep_cs.specs.declared.op.Op.{Op}

abbrev pub same_kind : Kind → Kind → Bool
same_kind kind.Keep kind.Keep = true
same_kind kind.Drop kind.Drop = true
same_kind kind.Insert kind.Insert = true
same_kind _ _ = false

-- a run and the next are written as one: they do the same, and not just the first has newlines
abbrev pub joins : Op → Op → Bool
joins o p = same_kind o.kind p.kind && (same_map o.attrs p.attrs && (nat_lt 0 p.lines || not (nat_lt 0 o.lines)))

abbrev pub joined : Op → Op → Op
joined o p = record { kind = p.kind; units = o.units + p.units; lines = o.lines + p.lines; attrs = p.attrs }

abbrev pub is_keep : Kind → Bool
is_keep kind.Keep = true
is_keep kind.Drop = false
is_keep kind.Insert = false

-- what isn't written at the end
abbrev pub is_bare : Op → Bool
is_bare o = is_keep o.kind && is_none o.attrs

-- a run before runs in normal form
abbrev pub put : Op → List Op → List Op
put o [] = cond (is_bare o) [] (o ∷ [])
put o (p ∷ ps) = cond (joins o p) (joined o p ∷ ps) (o ∷ (p ∷ ps))

abbrev pub one : Kind → AttrMap → ℕ → Op
one k m lines = record { kind = k; units = 1; lines = lines; attrs = m }

abbrev pub put_cells : List Cell → List Op → List Op
put_cells [] os = os
put_cells (c ∷ cs) os = put (one kind.Insert c.attrs (cond (is_newline c.unit) 1 0)) (put_cells cs os)

abbrev pub put_place : Fate → ℕ → List Op → List Op
put_place Drop mark os = put (one kind.Drop none mark) os
put_place (Keep m) mark os = put (one kind.Keep m mark) os

-- the runs of an edit, unit by unit from the last; `marks` has the newlines of each place
abbrev pub runs_from : List Place → List Cell → List ℕ → List Op
runs_from [] last marks = put_cells last []
runs_from (p ∷ ps) last [] = put_cells p.before (put_place p.fate 0 (runs_from ps last []))
runs_from (p ∷ ps) last (mark ∷ marks) = put_cells p.before (put_place p.fate mark (runs_from ps last marks))
