-- Several writes on a stream, one after another.
use Rattle.std.proofs.Common.{rules}
use Rattle.std.proofs.Common.{◌≡◌, ◌∙◌, ◌⊎◌, ℕ, ◌+◌, ◌<◌, List, [], ◌∷◌, ◌++◌, Result, Ok, Err, ap}
use Rattle.std.proofs.Common.{subst, sym, length, take, length-append, arith, append_assoc, append-nil}
use Rattle.std.proofs.Common.{◌^◌, get_or, drop}
use Rattle.std.proofs.lemmas.List.{take-append-le, take-append-drop}
use Rattle.tangle_streams.proofs.StreamLemmas.{Appends-append}
use Rattle.tangle_streams.specs.Streams.{Stream, Failed, IsWritten, IsWrittenAfter, TakesAll, TakesPrefix}
use Rattle.tangle_streams.specs.declared.failures.WriteFault.{WriteFault}
use Rattle.std.proofs.Math.Seq.{take-append-add}
use Rattle.std.specs.List.{fold}
use Rattle.std.proofs.lemmas.List.Sums.{fold-append, fold_more}
use Rattle.tangle_script.specs.Script.{WritesAnswer}

pub whole_then_whole : (a b c : Stream) (xs ys : List ℕ) → TakesAll a b xs → TakesAll b c ys → TakesAll a c (xs ++ ys)
whole_then_whole a b c xs ys p q = (Appends-append a.taken b.taken c.taken xs ys p.0 q.0, q.1 ∙ p.1)

pub whole_then_cut : (a b c : Stream) (xs ys : List ℕ)
    → TakesAll a b xs → TakesPrefix b c ys → TakesPrefix a c (xs ++ ys)
whole_then_cut a b c xs ys p q =
    let less = q.1 in (
      length xs + q.0,
      omega (arith, length-append xs ys),
      rw take-append-add (Appends-append a.taken b.taken c.taken xs (take q.0 ys) p.0 q.2),
      subst (λ n. Failed n c.failures) p.1 q.3,
    )

pub cut_more : (a b : Stream) (xs ys : List ℕ) → TakesPrefix a b xs → TakesPrefix a b (xs ++ ys)
cut_more a b xs ys p = search (rules, length-append, take-append-le)

pub whole_from : (a b : Stream) (n : ℕ) (bytes : List ℕ) → IsWritten a b bytes (Ok n) → TakesAll a b bytes
whole_from a b n bytes h = (h.1, h.2)

pub cut_from : (a b : Stream) (e : WriteFault) (bytes : List ℕ) → IsWritten a b bytes (Err e) → TakesPrefix a b bytes
cut_from a b e bytes h = (e.0, h.0, h.1, h.2)

pub tries_from : (a b : Stream) (r : Result ℕ WriteFault) (bytes : List ℕ)
    → IsWritten a b bytes r → TakesAll a b bytes ⊎ TakesPrefix a b bytes
tries_from a b r bytes h = search rules

-- parts that are written one after another, in a loop
module _ {X : Type 0} (bytes_of : X → List ℕ) where
  abbrev pub joined : List ℕ → List X → List ℕ
  joined front xs = fold (λ out x. out ++ bytes_of x) front xs

  joined_front : (front : List ℕ) (xs : List X) → (rest : List ℕ) × (joined front xs ≡ front ++ rest)
  joined_front front [] = ([], sym (append-nil front))
  joined_front front (x ∷ xs) =
      let after = joined_front (front ++ bytes_of x) xs in
      (bytes_of x ++ after.0, after.1 ∙ append_assoc front (bytes_of x) after.0)

  joined_split : (xs : List X) (i : ℕ) → (rest : List ℕ) × (joined [] xs ≡ joined [] (take i xs) ++ rest)
  joined_split xs i =
      let rest = joined_front (joined [] (take i xs)) (drop i xs) in (
        rest.0,
        ap (joined []) (sym (take-append-drop i xs))
            ∙ fold-append (λ out x. out ++ bytes_of x) [] (take i xs) (drop i xs) ∙ rest.1,
      )

  -- one more part is written and counted
  pub parts_written : (a b c : Stream) (xs : List X) (i : ℕ) (d : X) (so_far result : Result ℕ WriteFault)
      → i < length xs → length (joined [] xs) < 2 ^ 128 → IsWritten a b (joined [] (take i xs)) so_far
      → IsWrittenAfter b c so_far (bytes_of (get_or xs i d)) result → IsWritten a c (joined [] (take (i + 1) xs)) result
  parts_written a b c xs i d so_far result within fits p q =
      let next = fold_more (λ out x. out ++ bytes_of x) [] xs i d within in
      let whole = (joined_split xs (i + 1)).1 in
      search (rules, length-append)

  module _ (a b c : Stream) (xs : List X) (i : ℕ) (within : i < length xs)
      (d : X) (bytes : List ℕ) (is : bytes ≡ bytes_of (get_or xs i d)) where
    next : joined [] (take (i + 1) xs) ≡ joined [] (take i xs) ++ bytes
    next = fold_more (λ out x. out ++ bytes_of x) [] xs i d within ∙ ap (λ l. joined [] (take i xs) ++ l) (sym is)

    -- one more part is written
    pub parts_more : (n : ℕ) → TakesAll a b (joined [] (take i xs)) → IsWritten b c bytes (Ok n)
        → TakesAll a c (joined [] (take (i + 1) xs))
    parts_more n p q = rw next (whole_then_whole a b c (joined [] (take i xs)) bytes p (whole_from b c n bytes q))

    -- the stream failed at this part
    pub parts_cut : (e : WriteFault) → TakesAll a b (joined [] (take i xs)) → IsWritten b c bytes (Err e)
        → TakesPrefix a c (joined [] xs)
    parts_cut e p q =
        let split = joined_split xs (i + 1) in
        rw (split.1, next) (cut_more a c (joined [] (take i xs) ++ bytes) split.0
        (whole_then_cut a b c (joined [] (take i xs)) bytes p (cut_from b c e bytes q)))

-- an answer after bytes that are written
pub answer_then : {T E : Type 0} (a b c : Stream) (xs ys : List ℕ) (r : Result T E)
    → TakesAll a b xs → WritesAnswer b c ys r → WritesAnswer a c (xs ++ ys) r
answer_then a b c xs ys (Ok x) p q = whole_then_whole a b c xs ys p q
answer_then a b c xs ys (Err e) p q = whole_then_cut a b c xs ys p q
