-- A granted colour is sound, and complete where each removed group had a register to spare. Assumes nothing.
use Rattle.std.proofs.Common.{◌≡◌, ℕ, Bool, true, false, sym, refl, ap, ◌∙◌, inl, inr}
use Rattle.std.proofs.lemmas.Bool.{cases_Bool, and_parts, and_from, both_ways, not_from_false, false_from_ne_true, true_from_ne_false}
use Rattle.graph.specs.Shape.{Shape, Lawful}
use Rattle.session_laws.specs.Bank.{among}
use Rattle.session_laws.specs.Base.{Base, SoundBase, fixed}
use Rattle.session_laws.specs.State.{State, listed, merged_graph, is_loose}
use Rattle.session_laws.specs.Colouring.{none, own_number, group_register, register_of}
use Rattle.session_laws.specs.Grounds.{ColouredOn}
use Rattle.session_laws.specs.Invariants.{SoundState, SpareList, AllLight}
use Rattle.session_laws.specs.Steps.{SoundRegisters, AllRegisters}
use Rattle.session_laws.proofs.Cores.{far_stands, two_ends}
use Rattle.session_laws.proofs.Painting.{Differ, Registers, painted_differs, painted_kept, painted_registers, light_spare, painted_some}
use Rattle.session_laws.proofs.Standing.{Name, stands_from, merged_lawful, meet_from}

pub own_fixed : (b : Base) (v : ℕ) → fixed b v ≡ true → own_number b v ≡ v
own_fixed b v h = rw h

pub own_loose : (b : Base) (v : ℕ) → fixed b v ≡ false → own_number b v ≡ none
own_loose b v h = rw h

own_differ : (b : Base) (g : Shape) → Lawful g → Differ g (own_number b)
own_differ b g l u v j e = elim (cases_Bool (fixed b u)) [
  | inl fu ↦ elim (cases_Bool (fixed b v)) [
    | inl fv ↦ absurd (two_ends g l u v j (sym (own_fixed b u fu) ∙ (e ∙ own_fixed b v fv)))
    | inr fv ↦ e ∙ own_loose b v fv
  ]
  | inr fu ↦ own_loose b u fu
]

pub fixed_register : (b : Base) (v : ℕ) → fixed b v ≡ true → among b.first b.registers v ≡ true
fixed_register b v h = (and_parts (among b.first b.registers v) (b.graph.stands v) h).0

own_registers : (b : Base) → Registers b (own_number b)
own_registers b v = elim (cases_Bool (fixed b v)) [
  | inl f ↦ inr (rw (own_fixed b v f) (fixed_register b v f))
  | inr f ↦ inl (own_loose b v f)
]

group_differ : (b : Base) → SoundBase b → (s : State) → Differ (merged_graph b s) (group_register b s)
unfolding group_register
group_differ b sb s =
    painted_differs b (merged_graph b s) (merged_lawful b sb s) (own_number b) s.removed (own_differ b (merged_graph b s) (merged_lawful b sb s))

group_registers : (b : Base) (s : State) → Registers b (group_register b s)
unfolding group_register
group_registers b s = painted_registers b (merged_graph b s) (own_number b) s.removed (own_registers b)

pub group_kept : (b : Base) (s : State) (v : ℕ) → listed s.removed v ≡ false → group_register b s v ≡ own_number b v
unfolding group_register
group_kept b s v h = painted_kept b (merged_graph b s) (own_number b) s.removed v h

-- where each removed group had a register to spare, each has one, whatever still stands
group_removed : (b : Base) → SoundBase b → (s : State) → SoundState b s → AllLight b s → (v : ℕ) → listed s.removed v ≡ true →
    among b.first b.registers (group_register b s v) ≡ true
unfolding group_register
group_removed b sb s ss l v h =
    painted_some (λ _. true) b sb (merged_graph b s) (own_number b) s.removed ss.removed_once
    (light_spare (λ _. true) b.registers (merged_graph b s) s.removed l) (λ w hw. own_loose b w (ss.removed_loose w hw)) v h refl

pub register_in : (b : Base) (s : State) (v : ℕ) → b.graph.stands v ≡ true → register_of b s v ≡ group_register b s (s.table v)
register_in b s v h = rw h

register_out : (b : Base) (s : State) (v : ℕ) → b.graph.stands v ≡ false → register_of b s v ≡ none
register_out b s v h = rw h

pub name_of : (b : Base) (s : State) → SoundState b s → (v : ℕ) → b.graph.stands v ≡ true → Name s.table b.graph (s.table v)
name_of b s ss v h = record { is_vertex = ss.inside v h; is_own = ss.settles v }

fixed_kept : (b : Base) (s : State) → SoundState b s → (v : ℕ) → fixed b v ≡ true → listed s.removed v ≡ false
fixed_kept b s ss v h = false_from_ne_true (listed s.removed v) (λ e. both_ways _ (ss.removed_loose v e) h)

-- numbers of one group stand together
one_standing : (b : Base) (s : State) → SoundState b s → (u v : ℕ) → s.table u ≡ s.table v → b.graph.stands u ≡ true → b.graph.stands v ≡ true
one_standing b s ss u v e hu =
    true_from_ne_false (b.graph.stands v) (λ hv. both_ways _ hv (rw (e ∙ ss.outside v hv) at (ss.inside u hu)))

of_registers : (b : Base) → SoundBase b → (s : State) → SoundState b s → SoundRegisters b s (register_of b s)
of_registers b sb s ss = record {
  differ = λ u v j e.
      let hu : b.graph.stands u ≡ true = sb.lawful.standing u v j in
      let hv : b.graph.stands v ≡ true = far_stands b.graph sb.lawful u v j in
      let met = meet_from s.table b.graph sb.lawful (s.table u) (s.table v) (record {
        one_name = name_of b s ss u hu;
        other_name = name_of b s ss v hv;
        two = λ i. both_ways _ (ss.apart_within u v i) j;
        near = u;
        far = v;
        near_of = refl;
        far_of = refl;
        met = j;
      }) in
      register_in b s u hu ∙ group_differ b sb s (s.table u) (s.table v) met (sym (register_in b s u hu) ∙ (e ∙ register_in b s v hv));
  alike = λ u v e. elim (cases_Bool (b.graph.stands u)) [
    | inl hu ↦
        let hv : b.graph.stands v ≡ true = one_standing b s ss u v e hu in
        register_in b s u hu ∙ (ap (group_register b s) e ∙ sym (register_in b s v hv))
    | inr hu ↦ elim (cases_Bool (b.graph.stands v)) [
      | inl hv ↦ absurd (both_ways _ hu (one_standing b s ss v u (sym e) hv))
      | inr hv ↦ register_out b s u hu ∙ sym (register_out b s v hv)
    ]
  ];
  own = λ v f.
      let hv : b.graph.stands v ≡ true = (and_parts (among b.first b.registers v) (b.graph.stands v) f).1 in
      register_in b s v hv ∙ (ap (group_register b s) (ss.own v f) ∙ (group_kept b s v (fixed_kept b s ss v f) ∙ own_fixed b v f));
  in_bank = λ v. elim (cases_Bool (b.graph.stands v)) [
    | inl hv ↦ rw (register_in b s v hv) (group_registers b s (s.table v))
    | inr hv ↦ inl (register_out b s v hv)
  ];
  outside = λ v h. register_out b s v h;
}

pub colour_sound : (b : Base) → SoundBase b → (s : State) → SoundState b s → (register : ℕ → ℕ) → ColouredOn b s register →
    SoundRegisters b s register
colour_sound b sb s ss register g = rw g.by_rule (of_registers b sb s ss)

-- once no loose vertex stands, the name of a group that passes, and had then a register to spare, has one
pub name_served : (passes : ℕ → Bool) (b : Base) → SoundBase b → (s : State) → SoundState b s →
    SpareList passes b.registers (merged_graph b s) s.removed → ((v : ℕ) → is_loose b s v ≡ true → ⊥) →
    (t : ℕ) → Name s.table b.graph t → passes t ≡ true → among b.first b.registers (group_register b s t) ≡ true
unfolding group_register
name_served passes b sb s ss l none t n p = elim (cases_Bool (listed s.removed t)) [
  | inl h ↦ painted_some passes b sb (merged_graph b s) (own_number b) s.removed ss.removed_once l
      (λ w hw. own_loose b w (ss.removed_loose w hw)) t h p
  | inr h ↦ elim (cases_Bool (fixed b t)) [
    | inl f ↦ rw (group_kept b s t h ∙ own_fixed b t f) (fixed_register b t f)
    | inr f ↦ absurd (none t (and_from _ _ (stands_from b s t (record { name = n; is_kept = h })) (not_from_false _ f)))
  ]
]

pub colour_complete : (b : Base) → SoundBase b → (s : State) → SoundState b s → AllLight b s → (register : ℕ → ℕ) → ColouredOn b s register →
    AllRegisters b register
colour_complete b sb s ss l register g = rw g.by_rule (λ v hv. rw (register_in b s v hv) (name_served (λ _. true) b sb s ss
    (light_spare (λ _. true) b.registers (merged_graph b s) s.removed l) g.none_loose (s.table v) (name_of b s ss v hv) refl))
