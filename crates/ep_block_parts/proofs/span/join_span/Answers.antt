use Rattle.std.proofs.Common.{◌≡◌, ◌<◌, ◌+◌, ◌-◌, ◌∙◌, inl, length, ℕ, slice_index_or, slice_set, refl, sym, ap, arith}
use Rattle.ep_block_parts.specs.declared.span.Span.{Span}
use Rattle.ep_block_parts.proofs.Spans.{joined_set, last_units}
use Rattle.ep_block_parts.proofs.span.join_span.Goals as goal

pub overflow_add-last : goal.overflow_add-last
overflow_add-last c =
    let v = c.args.spans.now in
    let t = c.in-Some.last.now in
    let at : t ≡ slice_index_or v.items (length v.items - 1) t = c.in-Some.ensures.value ∙ ap (λ (n : ℕ). slice_index_or v.items (n - 1) t) v.ok.0 in
    let some : 0 < v.len = c.in-Some.ensures.variant.0 refl in
    omega (arith, last_units v.items t (omega (arith, some, v.ok.0)) at, c.requires.short)

pub returns-then-eq : goal.returns-then-eq
returns-then-eq c =
    let v = c.args.spans.now in
    let t = c.in-Some.last.now in
    let s : Span = record { units = c.args.units; attrs = c.args.attrs.now } in
    let at : t ≡ slice_index_or v.items (length v.items - 1) t = c.in-Some.ensures.value ∙ ap (λ (n : ℕ). slice_index_or v.items (n - 1) t) v.ok.0 in
    let some : 0 < v.len = c.in-Some.ensures.variant.0 refl in
    inl (ap (λ (n : ℕ). slice_set v.items (n - 1) (record { units = t.units + s.units; attrs = t.attrs })) v.ok.0
    ∙ joined_set v.items t s (omega (arith, some, v.ok.0)) at (sym c.eq.ensures ∙ c.if-eq.true))
