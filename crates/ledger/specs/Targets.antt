-- WHOM AN EVENT ENDS, by what is told: by births and answers alone, and no machine is looked at. Who may be named, who
-- dies of a trap and whether a V is carried out are said here a second time, not cited from the rule book.
use Rattle.std.specs.Prelude.{Bool, true, false, not, ◌&&◌, ◌||◌, List, [], ◌∷◌, ℕ, suc, ◌+◌, ◌-◌, eqb, leb, ltb, pos, negsuc, length, get_or, if◌then◌else◌}
use Rattle.rules.specs.declared.Mode.TheVariants.{User, Kernel}
use Rattle.rules.specs.declared.Event.{Event}
use Rattle.rules.specs.declared.Event.TheVariants.{Call, Interrupt, Exception}
use Rattle.rules.specs.declared.Arrival.{Arrival}
use Rattle.rules.specs.declared.Answer.{Answer}
use Rattle.rules.specs.Words.{first, those, among}
use Rattle.rules.specs.Numbers.{top, sub_devices}
use Rattle.ledger.specs.History.{Birth, Past, chain, customer_by, handle_by, holder, v_carried_out, p_got_through, tally}
use Rattle.ledger.specs.Ids.{ids_issued, ids_ended}

-- what is told beside the past: how many semaphores there are, the value of each, and which ids are alive
pub record Standing : Type 0 where
  pub sems : ℕ
  pub value : ℕ → ℕ
  pub alive : ℕ → Bool

-- from the starting values, by the events es with the answers rs: a value is the starting one, and the Vs carried out,
-- less the Ps that got through; an id is alive that is issued and has not ended
abbrev pub standing : List ℕ → Past → List Arrival → List Answer → Standing
standing values h es rs = record {
  sems = length values;
  value = λ i. get_or values i 0 + tally (v_carried_out i) es rs - tally (p_got_through i) es rs;
  alive = λ n. among n (ids_issued h es rs) && not (among n (ids_ended h es rs));
}

-- "a0 below −10, P or V with a1 above 31, V at 2,147,483,647, I/O with a1 above 47": the kernel call −n with a1
abbrev pub traps : Standing → ℕ → ℕ → Bool
traps st n a1 =
    ltb 10 n
    || (eqb n 3 && not (ltb a1 st.sems))
    || (eqb n 4 && not (ltb a1 st.sems && ltb (st.value a1) top))
    || (eqb n 5 && leb sub_devices a1)

-- "a0 of 1 or more, and program traps" (any negative call in user mode, a0 = 0, and those above), and "TLB exceptions"
abbrev pub goes_up : Standing → Event → Bool
goes_up st (Call now User a0 a1 a2 a3) = true
goes_up st (Call now Kernel (pos n) a1 a2 a3) = true
goes_up st (Call now Kernel (negsuc k) a1 a2 a3) = traps st (suc k) a1
goes_up st (Interrupt now n x y) = false
goes_up st (Exception now code) = true

-- −2 by the process with the id c: "a1 = 0 means the caller, otherwise an id"
abbrev pub names : Event → ℕ → List ℕ
names (Call now User a0 a1 a2 a3) c = []
names (Call now Kernel (pos n) a1 a2 a3) c = []
names (Call now Kernel (negsuc k) a1 a2 a3) c = if eqb (suc k) 2 then (if eqb a1 0 then c else a1) ∷ [] else []
names (Interrupt now n x y) c = []
names (Exception now code) c = []

-- 02, (xi): "terminate may now name only the caller itself or its own descendants; customer 0 may still name anyone":
-- c names n
abbrev pub allowed : List Birth → ℕ → ℕ → Bool
allowed bs c n = eqb (customer_by c bs) 0 || among c (n ∷ chain n bs)

-- where the process with the id c is running: "with no support handle the running process and its descendants end"; "an
-- id that names nobody alive .. ends nobody", nor does one that c may not name
abbrev pub ends_by : Standing → List Birth → Event → ℕ → List ℕ
ends_by st bs e c =
    if goes_up st e then (if eqb (handle_by c bs) 0 then c ∷ [] else [])
    else those (λ n. st.alive n && allowed bs c n) (names e c)

-- the target of an accepted event, nobody or one
abbrev pub target_told : Standing → Past → Event → List ℕ
target_told st h e = first h.runner [] (λ s. ends_by st h.births e (holder s h.births))
