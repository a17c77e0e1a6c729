-- What writing adds, field after field.
use Rattle.std.proofs.Common.{◌≡◌, ℕ, List, ◌++◌, Result}
use Rattle.ep_fields.specs.declared.fault.Fault.{Fault}
use Rattle.ep_fields.specs.Writing.{Adds}
use Rattle.ep_fields.proofs.Adding.{adds_then}

-- a maker: the session, the time, the author, and a flag that any may have
pub maker_added : {X : Type 0} (r : Result X Fault) (a b c d e s n t o : List ℕ) (S N T : Type 0)
    → (b ≡ a ++ s) × S → (c ≡ b ++ n) × N → (d ≡ c ++ t) × T → Adds r d e o (Unit {0}) → Adds r a e (s ++ (n ++ (t ++ o))) (S × N × T)
maker_added r a b c d e s n t o S N T session time author last =
    adds_then r a b e s (n ++ (t ++ o)) (S × N × T) (N × T) session.0 (λ q. (session.1, q.0, q.1)) (λ p. (p.1, p.2))
    (adds_then r b c e n (t ++ o) (N × T) T time.0 (λ q. (time.1, q)) (λ p. p.1)
    (adds_then r c d e t o T (Unit {0}) author.0 (λ q. author.1) (λ p. tt) last))

-- a creation: its kind, its two numbers, its spacing and its text, which is clean
pub create_added : {X : Type 0} (r : Result X Fault) (a b c d e f k m n s t : List ℕ) (M N S T K : Type 0)
    → b ≡ a ++ k → (c ≡ b ++ m) × M → (d ≡ c ++ n) × N → (e ≡ d ++ s) × S → Adds r e f t (T × K) → Adds r a f (k ++ (m ++ (n ++ (s ++ t)))) (M × N × S × T × K)
create_added r a b c d e f k m n s t M N S T K kind birth time spacing last =
    adds_then r a b f k (m ++ (n ++ (s ++ t))) (M × N × S × T × K) (M × N × S × T × K) kind (λ q. q) (λ p. p)
    (adds_then r b c f m (n ++ (s ++ t)) (M × N × S × T × K) (N × S × T × K) birth.0 (λ q. (birth.1, q.0, q.1, q.2, q.3)) (λ p. (p.1, p.2, p.3, p.4))
    (adds_then r c d f n (s ++ t) (N × S × T × K) (S × T × K) time.0 (λ q. (time.1, q.0, q.1, q.2)) (λ p. (p.1, p.2, p.3))
    (adds_then r d e f s t (S × T × K) (T × K) spacing.0 (λ q. (spacing.1, q.0, q.1)) (λ p. (p.1, p.2)) last)))
