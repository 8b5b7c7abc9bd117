use Rattle.std.proofs.Common.{◌≡◌, ℕ, ◌+◌, ◌-◌, ◌≤◌, List, ◌++◌, length, take, drop, vec_items, sym, ap, ◌∙◌, arith}
use Rattle.std.proofs.lemmas.List.{length-take, length-append, take-append-le, take_all, take-take, take-append-drop, drop-take}
use Rattle.console.specs.Wires.{taken}
use Rattle.cases.proofs.memory.MemoryWire.read.Goals as goal

-- the front of a list, and what comes after it
take_on : (k n : ℕ) (xs : List ℕ) → take (k + n) xs ≡ take k xs ++ take n (drop k xs)
take_on k n xs = sym (take-append-drop k (take (k + n) xs)) ∙ (λ i. take-take k (k + n) xs (omega arith) i ++ drop-take k n xs i)

front_fits : (n : ℕ) (xs ys : List ℕ) → length xs ≡ n → n ≤ length (xs ++ ys)
front_fits n xs ys e = omega (arith, length-append xs ys)

front_is : (n : ℕ) (xs ys : List ℕ) → length xs ≡ n → take n (xs ++ ys) ≡ xs
front_is n xs ys e = take-append-le n xs ys (omega arith) ∙ take_all n xs (omega arith)

pub returns : goal.returns
returns c =
    let at = c.args.self.now.at in
    let xs = vec_items c.args.self.now.input in
    let n = c.min-n.result in
    let copied = c.copy_from_slice.new.self in
    let long : length copied ≡ n = omega (arith, c.copy_from_slice.ensures.len, length-take (n - 0) c.args.block.now, c.min-n.ensures, c.min.ensures) in
    let same : copied ≡ take n (drop at xs) = c.copy_from_slice.ensures.after ∙ (λ i. take (let e : (at + n) - at ≡ n = omega arith in e i) (drop at (c.deref.ensures.value i))) in
    record {
      within = front_fits n copied _ long;
      logged = λ events h. (
        ap (λ t. taken events ++ t) (front_is n copied _ long ∙ same) ∙ ap (λ t. t ++ take n (drop at xs)) h.0 ∙ sym (take_on at n xs),
        h.1,
      );
      ended = λ none room. omega (arith, none, c.min-n.ensures, c.min.ensures, c.len.ensures, c.args.self.now.inside);
      failed = tt;
    }
