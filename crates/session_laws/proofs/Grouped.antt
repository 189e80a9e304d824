-- The merge table maps each number to the lowest that moves answered merged link to it. Assumes nothing.
use Rattle.std.proofs.Common.{◌≡◌, ℕ, ◌<◌, min, max, cond, eqb, ◌⊎◌, List, [], ◌∷◌, ◌++◌, sym, refl, ap, ◌∙◌, inl, inr, arith}
use Rattle.std.proofs.lemmas.Bool.{cases_eq}
use Rattle.std.proofs.lemmas.List.{append-nil, append_assoc}
use Rattle.session_laws.specs.Base.{Base, SoundBase}
use Rattle.session_laws.specs.State.{State, opened}
use Rattle.session_laws.specs.Calls.{Call, Outcome, refused, noted, marked, simplified, frozen, pushed, together, apart, merged, coloured}
use Rattle.session_laws.specs.Outcomes.{outcome}
use Rattle.session_laws.specs.Grounds.{GrantedOn}
use Rattle.session_laws.specs.Runs.{left_by, united, called, after, outcomes}
use Rattle.session_laws.specs.Invariants.{SoundState}
use Rattle.session_laws.specs.Groups.{Answered, Linked, itself, by_move, back, onwards}
use Rattle.session_laws.proofs.Granting.{grounds}
use Rattle.session_laws.proofs.Pairs.{Groups, groups_of}
use Rattle.session_laws.proofs.Sound.{keeps_sound}
use Rattle.session_laws.proofs.Uniting.{united_moved, united_kept}

pub answered_left : (os ps : List Outcome) (o : Outcome) → Answered os o → Answered (os ++ ps) o
answered_left [] ps o h = absurd h
answered_left (x ∷ os) ps o h = elim h [
  | inl e ↦ inl e
  | inr e ↦ inr (answered_left os ps o e)
]

answered_last : (os : List Outcome) (o : Outcome) → Answered (os ++ o ∷ []) o
answered_last [] o = inl refl
answered_last (x ∷ os) o = inr (answered_last os o)

pub answered_cases : (os : List Outcome) (p o : Outcome) → Answered (os ++ p ∷ []) o → Answered os o ⊎ (p ≡ o)
answered_cases [] p o h = elim h [
  | inl e ↦ inr e
  | inr e ↦ absurd e
]
answered_cases (x ∷ os) p o h = elim h [
  | inl e ↦ inl (inl e)
  | inr e ↦ elim (answered_cases os p o e) [
    | inl f ↦ inl (inr f)
    | inr f ↦ inr f
  ]
]

linked_more : (os ps : List Outcome) {u v : ℕ} → Linked os u v → Linked (os ++ ps) u v
linked_more os ps (itself v) = itself v
linked_more os ps (by_move m u v h) = by_move m u v (answered_left os ps (merged m u v) h)
linked_more os ps (back l) = back (linked_more os ps l)
linked_more os ps (onwards l r) = onwards (linked_more os ps l) (linked_more os ps r)

-- What the calls so far and the merge table have to do with each other.
pub record Grouped (os : List Outcome) (s : State) : Type 0 where
  pub one_name : (m u v : ℕ) → Answered os (merged m u v) → s.table u ≡ s.table v
  pub to_name : (v : ℕ) → Linked os v (s.table v)

pub linked_name : (os : List Outcome) (s : State) → Grouped os s → {u v : ℕ} → Linked os u v → s.table u ≡ s.table v
linked_name os s g (itself v) = refl
linked_name os s g (by_move m u v h) = g.one_name m u v h
linked_name os s g (back l) = sym (linked_name os s g l)
linked_name os s g (onwards l r) = linked_name os s g l ∙ linked_name os s g r

grouped_other : (os : List Outcome) (o : Outcome) (s t : State) → t.table ≡ s.table → ((m u v : ℕ) → o ≡ merged m u v → ⊥) →
    Grouped os s → Grouped (os ++ o ∷ []) t
grouped_other os o s t et ne g = record {
  one_name = λ m u v h. elim (answered_cases os o (merged m u v) h) [
    | inl e ↦ rw et (g.one_name m u v e)
    | inr e ↦ absurd (ne m u v e)
  ];
  to_name = λ v. rw et (linked_more os (o ∷ []) (g.to_name v));
}

grouped_merged : (b : Base) (os : List Outcome) (s : State) (m u v x y : ℕ) → Groups b s u v x y → Grouped os s → (t : State) →
    t.table ≡ united s.table y x → Grouped (os ++ merged m u v ∷ []) t
grouped_merged b os s m u v x y gs g t et = record {
  one_name = λ i a c h. rw et (elim (answered_cases os (merged m u v) (merged i a c) h) [
    | inl e ↦ ap (λ (z : ℕ). cond (eqb z y) x z) (g.one_name i a c e)
    | inr e ↦
        let ea : u ≡ a = cc in
        let ec : v ≡ c = cc in
        ap (united s.table y x) (sym ea) ∙ (to_x u (in_one) ∙ (sym (to_x v in_other) ∙ ap (united s.table y x) ec))
  ]);
  to_name = λ w. rw et (elim (cases_eq (s.table w) y) [
    | inl e ↦ rw (united_moved s.table y x w e) (onwards (subst_end w e) y_to_x)
    | inr e ↦ rw (united_kept s.table y x w e) (linked_more os (merged m u v ∷ []) (g.to_name w))
  ]);
}
  where
    differ : x ≡ y → ⊥
    differ e = let lt : x < y = gs.lower in omega arith

    in_one : (s.table u ≡ x) ⊎ (s.table u ≡ y)
    in_one = elim gs.names [ inl (a, c) ↦ inl a | inr (a, c) ↦ inr a ]

    in_other : (s.table v ≡ x) ⊎ (s.table v ≡ y)
    in_other = elim gs.names [ inl (a, c) ↦ inr c | inr (a, c) ↦ inl c ]

    to_x : (w : ℕ) → (s.table w ≡ x) ⊎ (s.table w ≡ y) → united s.table y x w ≡ x
    to_x w h = elim h [
      | inl e ↦ united_kept s.table y x w (λ i. differ (sym e ∙ i)) ∙ e
      | inr e ↦ united_moved s.table y x w e
    ]

    to_name' : (w z : ℕ) → s.table w ≡ z → Linked (os ++ merged m u v ∷ []) w z
    to_name' w z e = rw e at (linked_more os (merged m u v ∷ []) (g.to_name w))

    subst_end : (w : ℕ) → s.table w ≡ y → Linked (os ++ merged m u v ∷ []) w y
    subst_end w e = to_name' w y e

    new : Linked (os ++ merged m u v ∷ []) u v
    new = by_move m u v (answered_last os (merged m u v))

    y_to_x : Linked (os ++ merged m u v ∷ []) y x
    y_to_x = elim gs.names [
      | inl (a, c) ↦ onwards (back (to_name' v y c)) (onwards (back new) (to_name' u x a))
      | inr (a, c) ↦ onwards (back (to_name' u y a)) (onwards new (to_name' v x c))
    ]

grouped_call : (b : Base) → SoundBase b → (os : List Outcome) (s : State) → SoundState b s → Grouped os s → (o : Outcome) → GrantedOn b s o →
    Grouped (os ++ o ∷ []) (left_by s o)
unfolding left_by
grouped_call b sb os s ss g (refused k) h = grouped_other os (refused k) s s refl (λ m u v e. let z : ◌≡◌ {A = ℕ} 0 1 = cc in omega arith) g
grouped_call b sb os s ss g (noted i a c) h = grouped_other os (noted i a c) s _ refl (λ m u v e. let z : ◌≡◌ {A = ℕ} 0 1 = cc in omega arith) g
grouped_call b sb os s ss g (marked w) h = grouped_other os (marked w) s _ refl (λ m u v e. let z : ◌≡◌ {A = ℕ} 0 1 = cc in omega arith) g
grouped_call b sb os s ss g (simplified w) h = grouped_other os (simplified w) s _ refl (λ m u v e. let z : ◌≡◌ {A = ℕ} 0 1 = cc in omega arith) g
grouped_call b sb os s ss g (frozen w) h = grouped_other os (frozen w) s _ refl (λ m u v e. let z : ◌≡◌ {A = ℕ} 0 1 = cc in omega arith) g
grouped_call b sb os s ss g (pushed w) h = grouped_other os (pushed w) s _ refl (λ m u v e. let z : ◌≡◌ {A = ℕ} 0 1 = cc in omega arith) g
grouped_call b sb os s ss g (together i) h = grouped_other os (together i) s _ refl (λ m u v e. let z : ◌≡◌ {A = ℕ} 0 1 = cc in omega arith) g
grouped_call b sb os s ss g (apart i) h = grouped_other os (apart i) s _ refl (λ m u v e. let z : ◌≡◌ {A = ℕ} 0 1 = cc in omega arith) g
grouped_call b sb os s ss g (merged m u v) h =
    grouped_merged b os s m u v (min (s.table u) (s.table v)) (max (s.table u) (s.table v)) (groups_of b sb s ss m u v h) g _ refl
grouped_call b sb os s ss g (coloured register) h =
    grouped_other os (coloured register) s s refl (λ m u v e. let z : ◌≡◌ {A = ℕ} 0 1 = cc in omega arith) g

grouped_run : (b : Base) → SoundBase b → (cs : List Call) (os : List Outcome) (s : State) → SoundState b s → Grouped os s →
    Grouped (os ++ outcomes b s cs) (after b s cs)
grouped_run b sb [] os s ss g = rw (append-nil os) g
grouped_run b sb (c ∷ cs) os s ss g =
    let h = grounds b sb s c in
    rw (append_assoc os (outcome b s c ∷ []) (outcomes b (called b s c) cs)) at
    (grouped_run b sb cs (os ++ outcome b s c ∷ []) (called b s c)
    (keeps_sound b sb s ss (outcome b s c) h) (grouped_call b sb os s ss g (outcome b s c) h))

pub grouped_opened : (b : Base) → SoundBase b → (cs : List Call) → SoundState b opened → Grouped (outcomes b opened cs) (after b opened cs)
grouped_opened b sb cs ss = grouped_run b sb cs [] opened ss (record { one_name = λ m u v h. absurd h; to_name = λ v. itself v })
