-- A splice of cells, and the nodes that it is made in.
use Rattle.std.proofs.Common.{◌≡◌, ℕ, ◌+◌, ◌-◌, ◌<◌, ◌≤◌, List, [], ◌∷◌, ◌++◌, length, take, drop, get_or, refl, sym, ap, ap₂, ◌∙◌, arith, append_assoc, length-append}
use Rattle.std.proofs.lemmas.List.{take-append-le, drop-append-le}
use Rattle.std.proofs.Math.Seq.{take-append-add, drop-append-add}
use Rattle.std.specs.Arc.{arc_value}
use Rattle.std.specs.declared.sync.Arc.{Arc}
use Rattle.std.specs.declared.alloc.Global.{Global}
use Rattle.ep_units.specs.Text.{Text}
use Rattle.ep_attr.specs.AttrMap.{AttrMap}
use Rattle.ep_cs.specs.Doc.{Cell, text_of}
use Rattle.ep_cs.specs.Runs.{cells}
use Rattle.ep_block_nodes.specs.Blocks.{node_cells}
use Rattle.ep_block_parts.specs.Splices.{spliced}
use Rattle.ep_block_nodes.specs.Splices.{HasPlace}
use Rattle.ep_block_nodes.proofs.Blocks.{next_node, split_nodes, text-append, text_take, text_drop}

pub spliced_between : (first own last new : List Cell) (at dropped before : ℕ) → before ≡ length first → before ≤ at → at + dropped ≤ before + length own
    → spliced at dropped new (first ++ (own ++ last)) ≡ first ++ (spliced (at - before) dropped new own ++ last)
spliced_between first own last new at dropped before b l e =
    let k = at - before in
    let at_is : at ≡ length first + k = omega (arith, b, l) in
    let end_is : at + dropped ≡ length first + (k + dropped) = omega (arith, b, l) in
    let taken : take at (first ++ (own ++ last)) ≡ first ++ take k own =
    ap (λ n. take n (first ++ (own ++ last))) at_is ∙ take-append-add first (own ++ last) k ∙ ap (λ cs. first ++ cs) (take-append-le k own last (omega (arith, e, l))) in
    let left : drop (at + dropped) (first ++ (own ++ last)) ≡ drop (k + dropped) own ++ last =
    ap (λ n. drop n (first ++ (own ++ last))) end_is ∙ drop-append-add first (own ++ last) (k + dropped) ∙ drop-append-le (k + dropped) own last (omega (arith, e, l)) in
    (λ i. taken i ++ (new ++ left i))
    ∙ append_assoc first (take k own) (new ++ (drop (k + dropped) own ++ last))
    ∙ ap (λ cs. first ++ cs) (ap (λ cs. take k own ++ cs) (sym (append_assoc new (drop (k + dropped) own) last)) ∙ sym (append_assoc (take k own) (new ++ drop (k + dropped) own) last))

node_between : {A : Type 0} (f : A → List Cell) (ns : List (Arc A Global)) (i : ℕ) (n : Arc A Global) → i < length ns → n ≡ get_or ns i n
    → node_cells f ns ≡ node_cells f (take i ns) ++ (f (arc_value n) ++ node_cells f (drop (i + 1) ns))
node_between f ns i n h e =
    sym (split_nodes f (i + 1) ns) ∙ ap (λ cs. cs ++ node_cells f (drop (i + 1) ns)) (next_node f ns i n h e)
    ∙ append_assoc (node_cells f (take i ns)) (f (arc_value n)) (node_cells f (drop (i + 1) ns))

-- what the node has that has the place
pub record HasIt (own at dropped before all : ℕ) : Type 0 where
  pub inside : at - before + dropped ≤ own
  pub end : at + dropped ≤ before + own
  pub room : own ≤ all

pub has_it : {A : Type 0} (f : A → List Cell) (ns : List (Arc A Global)) (i : ℕ) (n : Arc A Global) (at dropped before : ℕ) → HasPlace f ns at (at + dropped) i before → n ≡ get_or ns i n
    → HasIt (length (f (arc_value n))) at dropped before (length (node_cells f ns))
has_it f ns i n at dropped before p e =
    let own = f (arc_value n) in
    let first = node_cells f (take i ns) in
    let last = node_cells f (drop (i + 1) ns) in
    let next : length (node_cells f (take (i + 1) ns)) ≡ before + length own = ap length (next_node f ns i n p.there e) ∙ length-append first own ∙ ap (λ k. k + length own) (sym p.count) in
    let all : length (node_cells f ns) ≡ length first + length (own ++ last) = ap length (node_between f ns i n p.there e) ∙ length-append first (own ++ last) in
    record {
      inside = omega (arith, next, p.begins, p.ends);
      end = omega (arith, next, p.ends);
      room = omega (arith, all, length-append own last);
    }

-- nodes with that one after the splice
pub node_spliced : {A : Type 0} (f : A → List Cell) (ns : List (Arc A Global)) (i : ℕ) (n : Arc A Global) (made new all : List Cell) (at dropped before : ℕ) → HasPlace f ns at (at + dropped) i before → n ≡ get_or ns i n
    → made ≡ spliced (at - before) dropped new (f (arc_value n)) → all ≡ node_cells f (take i ns) ++ (made ++ node_cells f (drop (i + 1) ns))
    → all ≡ spliced at dropped new (node_cells f ns)
node_spliced f ns i n made new all at dropped before p e m a =
    let first = node_cells f (take i ns) in
    let last = node_cells f (drop (i + 1) ns) in
    let it = has_it f ns i n at dropped before p e in
    a ∙ ap (λ cs. first ++ (cs ++ last)) m
    ∙ sym (spliced_between first (f (arc_value n)) last new at dropped before p.count p.begins it.end)
    ∙ ap (spliced at dropped new) (sym (node_between f ns i n p.there e))

-- ---- the text after a splice

text_cells : (m : AttrMap) (us : Text) → text_of (cells m us) ≡ us
text_cells m [] = refl
text_cells m (u ∷ us) = ap (λ vs. u ∷ vs) (text_cells m us)

-- the text after a splice
pub text_spliced : (at dropped : ℕ) (m : AttrMap) (new : Text) (cs : List Cell)
    → text_of (spliced at dropped (cells m new) cs) ≡ take at (text_of cs) ++ (new ++ drop (at + dropped) (text_of cs))
text_spliced at dropped m new cs =
    text-append (take at cs) (cells m new ++ drop (at + dropped) cs)
    ∙ ap₂ (λ (a b : Text). a ++ b) (text_take at cs) (text-append (cells m new) (drop (at + dropped) cs) ∙ ap₂ (λ (a b : Text). a ++ b) (text_cells m new) (text_drop (at + dropped) cs))
