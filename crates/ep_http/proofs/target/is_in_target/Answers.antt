use Rattle.std.proofs.Common.{◌≡◌, ◌≢◌, ◌<◌, ◌-◌, ◌∙◌, ℕ, List, [], ◌∷◌, true≢false, drop, length, take, sym, subst, arith}
use Rattle.std.specs.Prelude.{MatchOption}
use Rattle.std.specs.List.{prefix_len}
use Rattle.std.proofs.lemmas.Bool.Decides.{Decides-eqb}
use Rattle.std.proofs.lemmas.List.Sums.{AllPass-from_list_all, list_all-from_AllPass}
use Rattle.std.proofs.lemmas.Slice.Eq.{strip_prefix_is}
use Rattle.httparse.specs.Grammar.{AllPass, is_token_byte, is_uri_byte}
use Rattle.ep_http.proofs.TargetLines.{all_from, cut_line, in_target}
use Rattle.ep_http.proofs.target.is_in_target.Goals as goal

pub returns-in-Some : goal.returns-in-Some
returns-in-Some c =
    let line = c.args.line.now in
    let n = c.method_len-method.result in
    let target = c.in-Some.target.now in
    let is : n ≡ prefix_len is_token_byte line = c.method_len-method.ensures.len in
    let all = take (length line - n) (drop n line) in
    let cut : all ≡ 32 ∷ target = subst (λ r. MatchOption r ((rest : List ℕ) → all ≢ 32 ∷ rest) (λ x. all ≡ 32 ∷ x.now)) c.in-Some.is (strip_prefix_is Decides-eqb all (32 ∷ []) c.strip_prefix.result c.strip_prefix.ensures.cases) in
    let behind : drop n line ≡ 32 ∷ target = sym (all_from line n) ∙ cut in
    let some : 0 < n = grind (arith, c.if-method-eq0.false) in (
      λ t. in_target line target n is (record { some = some; behind = behind; uri = AllPass-from_list_all is_uri_byte target (sym c.are_target_bytes.ensures ∙ t) }),
      λ at.
          let there = (cut_line line n is at).behind in
          let same : at.target ≡ target = cc in
          c.are_target_bytes.ensures ∙ list_all-from_AllPass is_uri_byte target (subst (AllPass is_uri_byte) same at.uri),
    )

pub returns-in-None : goal.returns-in-None
returns-in-None c =
    let line = c.args.line.now in
    let n = c.method_len-method.result in
    let is : n ≡ prefix_len is_token_byte line = c.method_len-method.ensures.len in
    let all = take (length line - n) (drop n line) in
    let none : (rest : List ℕ) → all ≢ 32 ∷ rest = subst (λ r. MatchOption r ((rest : List ℕ) → all ≢ 32 ∷ rest) (λ x. all ≡ 32 ∷ x.now)) c.in-None.is (strip_prefix_is Decides-eqb all (32 ∷ []) c.strip_prefix.result c.strip_prefix.ensures.cases) in (
      λ t. absurd (true≢false (sym t)),
      λ at. absurd (none at.target (all_from line n ∙ (cut_line line n is at).behind)),
    )
