-- Documents stay documents under a change that fits them.
use Rattle.std.proofs.Common.{◌≡◌, ℕ, zero, suc, ◌-◌, List, [], ◌∷◌, ◌++◌, length, take, drop, replicate, sym, ap, ◌∙◌, subst, append_assoc}
use Rattle.ep_units.specs.Text.{Text}
use Rattle.ep_attr.specs.AttrMap.{AttrMap, none, after, join}
use Rattle.ep_attr.proofs.Maps.{after-after}
use Rattle.ep_cs.specs.Doc.{Doc, painted}
use Rattle.ep_cs.specs.Edit.{Step, apply, inserts}
use Rattle.ep_cs.specs.Edit.Fate.{Drop, Keep}
use Rattle.ep_cs.specs.Edit.Step.{Insert, Pass}
use Rattle.ep_cs.specs.Steps.{run}
use Rattle.ep_cs.specs.Change.{Change, bank_of}
use Rattle.ep_cs.specs.Fits.{Fits}
use Rattle.ep_cs.specs.NormalRuns.{IsRun, AreNormal, IsNormal}
use Rattle.ep_cs.specs.Runs.{cells, inserted, run_steps, op_steps, steps_of, all_passed, rest_kept}
use Rattle.ep_cs.specs.declared.op.Kind.{Kind}
use Rattle.ep_cs.specs.declared.op.Kind.TheVariants as kind
use Rattle.ep_cs.specs.declared.op.Op.{Op}
use Rattle.ep_cs.proofs.Drafts.{once}
use Rattle.ep_cs.proofs.Documents.{document_after}
use Rattle.ep_apply.specs.Documents.{HasNoEmpty, IsDocument}
use Rattle.ep_apply.proofs.Walk.{apply-made}

-- what steps insert has maps without empty values
abbrev NewMaps : List Step → Type 0
NewMaps [] = Unit {0}
NewMaps (Insert c ∷ s) = (c.attrs ≡ after none c.attrs) × NewMaps s
NewMaps (Pass f ∷ s) = NewMaps s

map_after : (a m : AttrMap) → a ≡ after none a → after a m ≡ after none (after a m)
map_after a m e =
    let made : after a m ≡ after none (join a m) = ap (λ (b : AttrMap). after b m) e ∙ after-after none a m in
    made ∙ once (join a m) ∙ ap (after none) (sym made)

maps_made : (s : List Step) (doc : Doc) → NewMaps s → HasNoEmpty doc → HasNoEmpty (run painted (λ c. c) s doc)
maps_made [] doc new maps = tt
maps_made (Insert c ∷ s) doc new maps = (new.0, maps_made s doc new.1 maps)
maps_made (Pass Drop ∷ s) [] new maps = maps_made s [] new tt
maps_made (Pass (Keep m) ∷ s) [] new maps = maps_made s [] new tt
maps_made (Pass Drop ∷ s) (c ∷ doc) new maps = maps_made s doc new maps.1
maps_made (Pass (Keep m) ∷ s) (c ∷ doc) new maps = (map_after c.attrs m maps.0, maps_made s doc new maps.1)

new_cells : (m : AttrMap) (us : Text) (s : List Step) → m ≡ after none m → NewMaps s → NewMaps (inserts (cells m us) ++ s)
new_cells m [] s e h = h
new_cells m (u ∷ us) s e h = (e, new_cells m us s e h)

new_drops : (n : ℕ) (t : List Step) → NewMaps t → NewMaps (replicate n (Pass Drop) ++ t)
new_drops zero t h = h
new_drops (suc n) t h = new_drops n t h

new_keeps : (n : ℕ) (m : AttrMap) (t : List Step) → NewMaps t → NewMaps (replicate n (Pass (Keep m)) ++ t)
new_keeps zero m t h = h
new_keeps (suc n) m t h = new_keeps n m t h

new_rest : (n : ℕ) → NewMaps (rest_kept n)
new_rest zero = tt
new_rest (suc n) = new_rest n

new_runs : (ops : List Op) (bank : Text) (r : ℕ) → AreNormal ops bank → NewMaps (steps_of ops bank ++ rest_kept r)
new_runs [] bank r n = new_rest r
new_runs (o ∷ os) bank r n =
    subst NewMaps (sym (append_assoc (op_steps o (take (inserted o.kind o.units) bank)) (steps_of os (drop (inserted o.kind o.units) bank)) (rest_kept r)))
    (go o.kind n.0 (steps_of os (drop (inserted o.kind o.units) bank) ++ rest_kept r) (new_runs os (drop (inserted o.kind o.units) bank) r n.2))
  where
    go : (k : Kind) → IsRun k o.units o.lines o.attrs (take (inserted k o.units) bank) → (t : List Step) → NewMaps t → NewMaps (run_steps k o.units o.attrs (take (inserted o.kind o.units) bank) ++ t)
    go kind.Keep is t h = new_keeps o.units o.attrs t h
    go kind.Drop is t h = new_drops o.units t h
    go kind.Insert is t h = new_cells o.attrs (take (inserted o.kind o.units) bank) t is.2 h

-- a document after a change
pub document_made : (c : Change) (doc : Doc) → IsNormal c → Fits c doc → IsDocument doc → IsDocument (apply c.edit doc)
document_made c doc n f is = record {
  pairs = document_after c.edit.places c.edit.last doc f.length n.pieces f.pairs is.pairs;
  values =
      let s = steps_of c.runs (bank_of c.edit) ++ rest_kept (length c.edit.places - all_passed c.runs) in
      let e : apply c.edit doc ≡ run painted (λ c. c) s doc = ap (λ (x : Change). apply x.edit doc) n.is ∙ apply-made s doc in
      subst HasNoEmpty (sym e) (maps_made s doc (new_runs c.runs (bank_of c.edit) (length c.edit.places - all_passed c.runs) n.normal) is.values);
}

pub document_is : (doc cs : Doc) → IsDocument doc → cs ≡ doc → IsDocument cs
document_is doc cs is e = subst IsDocument (sym e) is
