-- Bytes that end inside a request's target.
use Rattle.std.proofs.Common.{◌≡◌, ◌≢◌, ◌<◌, ◌≤◌, ◌-◌, ℕ, List, [], ◌∷◌, ◌++◌, true, length, take, drop, suc, sym, ap, ◌∙◌, arith, append_assoc, append-nil, length-drop}
use Rattle.std.proofs.Math.Seq.{drop-append_seam, take-length}
use Rattle.std.proofs.lemmas.Grind.{flat_map-append}
use Rattle.std.proofs.lemmas.List.{get_or-take, length-take-le, take-append-drop}
use Rattle.std.proofs.lemmas.List.Sums.{prefix_len-le-length, prefix_len_passes}
use Rattle.std.specs.List.{prefix_len}
use Rattle.httparse.specs.Grammar.{AllPass, EndsInTarget, LineEnd, crlf, lf, is_token_byte, is_uri_byte, print_blank, print_end}
use Rattle.httparse.specs.Pieces.{Stops, is_newline}
use Rattle.httparse.proofs.PieceLemmas.{newline_not_stopped, print_end_unique, space_ends_token, Stops_token}
use Rattle.ep_http.specs.Target.{HasNoLineEnd, IsBehindEmptyLines, IsBehindLineEnd, IsInTarget}

-- ---- empty lines

pub one_more : (bytes rest more : List ℕ) → ((ends : List LineEnd) × (bytes ≡ print_blank ends ++ rest)) → IsBehindLineEnd rest more
    → (ends : List LineEnd) × (bytes ≡ print_blank ends ++ more)
one_more bytes rest more (ends, whole) (e, is) =
    let split : print_blank (ends ++ e ∷ []) ≡ print_blank ends ++ print_end e = flat_map-append print_end ends (e ∷ []) ∙ ap (λ x. print_blank ends ++ x) (append-nil (print_end e)) in
    (ends ++ e ∷ [], whole ∙ (ap (λ r. print_blank ends ++ r) is ∙ (sym (append_assoc (print_blank ends) (print_end e) more) ∙ ap (λ f. f ++ more) (sym split))))

pub no_end : (bytes : List ℕ) → ((rest : List ℕ) → bytes ≢ 10 ∷ rest) → ((rest : List ℕ) → bytes ≢ 13 ∷ 10 ∷ rest) → HasNoLineEnd bytes
no_end bytes n m crlf rest = m rest
no_end bytes n m lf rest = n rest

pub shorter : (rest more : List ℕ) → IsBehindLineEnd rest more → length more < length rest
shorter rest more (crlf, is) = let size = ap length is in omega (arith, size)
shorter rest more (lf, is) = let size = ap length is in omega (arith, size)

-- what follows all empty lines is one thing only
same_line : (a b : List LineEnd) (r q : List ℕ) → HasNoLineEnd r → Stops is_newline q
    → print_blank a ++ r ≡ print_blank b ++ q → r ≡ q
same_line [] [] r q none stops e = e
same_line [] (y ∷ b) r q none stops e = absurd (none y _ (e ∙ append_assoc (print_end y) (print_blank b) q))
same_line (x ∷ a) [] r q none stops e = absurd (newline_not_stopped x _ q (sym (append_assoc (print_end x) (print_blank a) r) ∙ e) stops)
same_line (x ∷ a) (y ∷ b) r q none stops e =
    let tails = print_end_unique x y _ _ (sym (append_assoc (print_end x) (print_blank a) r) ∙ e ∙ append_assoc (print_end y) (print_blank b) q) in
    same_line a b r q none stops tails.1

pub from_line : (bytes line : List ℕ) → IsBehindEmptyLines bytes line → IsInTarget line → EndsInTarget bytes
from_line bytes line behind at = (behind.ends, at.method, at.target, at.token, at.uri, behind.whole ∙ (ap (λ l. print_blank behind.ends ++ l) at.whole ∙ sym (append_assoc (print_blank behind.ends) at.method (32 ∷ at.target))))

pub to_line : (bytes line : List ℕ) → IsBehindEmptyLines bytes line → EndsInTarget bytes → IsInTarget line
to_line bytes line behind (blank, method, target, token, uri, whole) = record {
  method = method;
  target = target;
  token = token;
  uri = uri;
  whole = same_line behind.ends blank line (method ++ 32 ∷ target) behind.no_more (Stops_token method (32 ∷ target) token.0 token.1) (sym behind.whole ∙ (whole ∙ append_assoc (print_blank blank) method (32 ∷ target)));
}

-- ---- the line

prefix_word : (m t : List ℕ) → AllPass is_token_byte m → prefix_len is_token_byte (m ++ 32 ∷ t) ≡ length m
prefix_word [] t all = rw space_ends_token (omega arith)
prefix_word (b ∷ bs) t all =
    let first : is_token_byte b ≡ true = all 0 0 (omega arith) in
    let ih = prefix_word bs t (λ k d lt. all (suc k) d (omega arith)) in
    rw first (omega (arith, ih))

-- all from a place on
pub all_from : (line : List ℕ) (n : ℕ) → take (length line - n) (drop n line) ≡ drop n line
all_from line n = ap (λ k. take k (drop n line)) (sym (length-drop n line)) ∙ take-length (drop n line)

-- the method and what stands behind it
pub record IsCutLine (line : List ℕ) (n : ℕ) (target : List ℕ) : Type 0 where
  pub some : 0 < n
  pub behind : drop n line ≡ 32 ∷ target
  pub uri : AllPass is_uri_byte target

pub in_target : (line target : List ℕ) (n : ℕ) → n ≡ prefix_len is_token_byte line → IsCutLine line n target → IsInTarget line
in_target line target n is cut =
    let fits : n ≤ length line = omega (arith, is, prefix_len-le-length is_token_byte line) in
    let size = length-take-le n line fits in
    let some = cut.some in
    record {
      method = take n line;
      target = target;
      token = (omega (arith, size, some), λ k d lt. ap is_token_byte (get_or-take n line k d (omega (arith, size, lt))) ∙ prefix_len_passes is_token_byte line k d (omega (arith, size, lt, is)));
      uri = cut.uri;
      whole = sym (take-append-drop n line) ∙ ap (λ l. take n line ++ l) cut.behind;
    }

pub cut_line : (line : List ℕ) (n : ℕ) → n ≡ prefix_len is_token_byte line → (at : IsInTarget line) → IsCutLine line n at.target
cut_line line n is at =
    let size : n ≡ length at.method = is ∙ (ap (prefix_len is_token_byte) at.whole ∙ prefix_word at.method at.target at.token.1) in
    record {
      some = omega (arith, size, at.token.0);
      behind = ap (λ k. drop k line) size ∙ (ap (drop (length at.method)) at.whole ∙ drop-append_seam at.method (32 ∷ at.target));
      uri = at.uri;
    }
