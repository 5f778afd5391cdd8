-- What was chosen of the records stands at the front, and the places that the others leave are blanked.
use Rattle.std.proofs.Common.{◌≡◌, ℕ, ◌-◌, ◌≤◌, ◌++◌, length, take, drop, replicate, sym, ap, ◌∙◌, subst, refl, arith}
use Rattle.std.proofs.lemmas.List.{take-append-le, drop_at, drop_all, append-nil, append_assoc, length-append, length-drop, length-take-le}
use Rattle.std.specs.Fn.{CalledAt}
use Rattle.std.specs.List.Retain.{IsFiltered}
use Rattle.line.proofs.Moving.{blanked}
use Rattle.line.proofs.Changes.{left_over}
use Rattle.line.proofs.table.Table.retain.Goals as goal

pub returns : goal.returns
returns g c =
    let t = c.args.self.now in
    let xs = t.places.now in
    let n = t.used in
    let b = g.T.Blank.blank in
    let k = c.sift-kept.result in
    let s = c.sift-kept.new.records in
    let d = drop n xs in
    let e = c.sift-kept.ensures in
    let ys = s ++ d in
    let l : length s ≡ n = omega (arith, e.length, length-take-le n xs c.requires.within) in
    let long : length ys ≡ length xs = omega (arith, length-append s d, length-drop n xs, l, c.requires.within) in
    let le : k ≤ n = omega (arith, e.within, length-take-le n xs c.requires.within) in
    let front : take k ys ≡ take k s = take-append-le k s d (omega (arith, l, le)) in
    let blank =
    ap (λ z. z ++ d) (blanked s c.wipe.new.places k (length s) b (omega (arith, l, le)) (omega arith) c.wipe.ensures)
    ∙ ap (λ z. (take k s ++ (replicate (length s - k) b ++ z)) ++ d) (drop_all (length s) s (omega arith))
    ∙ ap (λ z. (take k s ++ z) ++ d) (append-nil (replicate (length s - k) b))
    ∙ append_assoc (take k s) (replicate (length s - k) b) d
    ∙ ap (λ (j : ℕ). take k s ++ (replicate (j - k) b ++ d)) l
    ∙ ap (λ z. z ++ (replicate (n - k) b ++ d)) (sym front)
    ∙ ap (λ z. take k ys ++ (replicate (n - k) b ++ z)) (sym (drop_at s d n l)) in
    let left = left_over b xs ys _ k n le c.requires.within long (drop_at s d n l) blank in
    record {
      lent = record { same = refl; length = left.long; cleared = left.cleared };
      used = le;
      records = subst (λ r. IsFiltered (CalledAt g.F.FnMut) c.args.test (take n xs) r) (sym (left.records ∙ front)) e.chosen;
      within = omega (arith, left.long, le, c.requires.within);
    }
