-- The listing and the marked cases M1 to M12, worked with charges (R15, R16), and five more: two rounds in a send, a leaf that turned
-- inactive, a surplus round that sends, the listing under each rule of the round size (R222). The input, the calls, and what each of them
-- is to give. Demands 1 and 2.
use Rattle.checks.specs.declared.Refusal.{Refusal}
use Rattle.checks.specs.declared.Refusal.TheVariants.{Cut, TooHeavy, NoClass, NoLeaf, BadLength, Full, NothingWaits}
use Rattle.checks.specs.Check.{refusal_at}
use Rattle.std.specs.Prelude.{List, [], ◌∷◌, ◌++◌, ℕ, suc, ◌*◌, replicate, Ok, Err}
use Rattle.tree.specs.Sum.{table}
use Rattle.rules.specs.Opening.{main, surplus}
use Rattle.calls.specs.declared.Arrival.{Arrival}
use Rattle.calls.specs.declared.Departure.{Departure}
use Rattle.calls.specs.Run.{arrival as arrives, send as sends}
use Rattle.marked.specs.Run.{Read, opening, show, end, Accounts, OpenedRound, Shown, Ask, call, look, Exchange, ◌⟶◌, Entry}

-- the run of an entry, and more after it
infixl 60 ◌then◌
abbrev ◌then◌ : Entry → List Exchange → Entry
e then exchanges = record { input = e.input; read = e.read; exchanges = e.exchanges ++ exchanges }

-- the calls: an arrival of a packet with this class, length and tag, or a send
abbrev arrival : ℕ → ℕ → ℕ → Ask
arrival class length tag = call (arrives class (record { length = length; tag = tag }))

abbrev send : Ask
send = call sends

-- answers by short names: a plan's classes, Q and bytes used, or its refusal; a packet taken with the bytes then in its queue, or
-- refused; a packet out with its rounds, or
-- none
abbrev accepted : ℕ → ℕ → ℕ → Read
accepted classes size used = record { verdict = Ok tt; used = used; classes = classes; size = size }

abbrev stop : Refusal → ℕ → Read
stop refusal place = record { verdict = Err (refusal_at refusal place); used = 0; classes = 0; size = 0 }

abbrev taken : ℕ → Arrival
taken bytes = record { verdict = Ok tt; bytes = record { 0 = bytes } }

abbrev refused : Refusal → ℕ → Arrival
refused refusal place = record { verdict = Err (refusal_at refusal place); bytes = record { 0 = 0 } }

abbrev out : ℕ → ℕ → ℕ → ℕ → ℕ → Departure
out class length tag rounds waited =
    record { verdict = Ok tt; class = class; length = length; tag = tag; rounds = rounds; waited = waited }

abbrev none : Departure
none = record { verdict = Err (refusal_at NothingWaits 0); class = 0; length = 0; tag = 0; rounds = 0; waited = 0 }

-- who is active, and the accounts
abbrev shown : List ℕ → Accounts → Shown
shown active accounts = record { active = active; accounts = accounts }

-- numbers of classes 0 to 4, and 0 for every other class number
abbrev these : List ℕ → List ℕ
these numbers = numbers ++ replicate 59 0

abbrev nothing : List ℕ
nothing = replicate 64 0

-- Tree P: class 1 inner, parent 0, weight 3 (the number given here); class 2 leaf, parent 1, weight 1; class 3 leaf, parent 1, weight 2;
-- class 4 leaf, parent 0, weight 4; each longest 10
abbrev tree_with : ℕ → List ℕ
tree_with weight =
    (1 ∷ 0 ∷ 0 ∷ 0 ∷ 0 ∷ weight ∷ [])
    ++ (2 ∷ 1 ∷ 0 ∷ 0 ∷ 0 ∷ 1 ∷ 0 ∷ 10 ∷ [])
    ++ (2 ∷ 1 ∷ 0 ∷ 0 ∷ 0 ∷ 2 ∷ 0 ∷ 10 ∷ [])
    ++ (2 ∷ 0 ∷ 0 ∷ 0 ∷ 0 ∷ 4 ∷ 0 ∷ 10 ∷ [])
    ++ (0 ∷ [])

-- M1 the plan is accepted, Q 262, 31 bytes used.
abbrev m1 : Entry
m1 = record { input = tree_with 3; read = accepted 4 262 31; exchanges = [] }

-- The listing: four arrivals, five sends, and no packet left. Each packet costs 84, and all four were accepted before the first send.
abbrev arrivals : List Exchange
arrivals = arrival 2 2 1 ⟶ taken 84 ∷ arrival 3 10 2 ⟶ taken 84 ∷ arrival 3 10 3 ⟶ taken 168 ∷ arrival 4 10 4 ⟶ taken 84 ∷ []

abbrev first_send : List Exchange
first_send = send ⟶ out 4 10 4 1 84 ∷ []

abbrev two_more : List Exchange
two_more = send ⟶ out 2 2 1 1 168 ∷ send ⟶ out 3 10 2 0 252 ∷ []

abbrev fourth_send : List Exchange
fourth_send = send ⟶ out 3 10 3 0 336 ∷ []

abbrev last_send : List Exchange
last_send = send ⟶ none ∷ []

abbrev listing : Entry
listing = m1 then arrivals then first_send then two_more then fourth_send then last_send then (look end ⟶ 0 ∷ [])

-- M2 the first opening: quotas 37 (root) and 37 (class 1); balances of classes 0 to 4: 3, 0, 37, 74, 148.
abbrev first_opening : OpenedRound
first_opening = record {
  closed = record { B = these (262 ∷ 0 ∷ 0 ∷ 0 ∷ 0 ∷ []); R = nothing };
  kind = main;
  size = 262;
  quotas = 37 ∷ 37 ∷ [];
  after = record { B = these (3 ∷ 0 ∷ 37 ∷ 74 ∷ 148 ∷ []); R = nothing };
}

abbrev m2 : Entry
m2 = m1 then arrivals then (look (opening 0) ⟶ (first_opening ∷ []) ∷ []) then first_send

-- M3 after the first send: root B 87, R 64; class 4 is inactive.
abbrev after_first : Shown
after_first = shown (0 ∷ 1 ∷ 2 ∷ 3 ∷ []) (record { B = these (87 ∷ 0 ∷ 37 ∷ 74 ∷ 0 ∷ []); R = these (64 ∷ 0 ∷ 0 ∷ 0 ∷ 0 ∷ []) })

abbrev m3 : Entry
m3 = m1 then arrivals then first_send then (look show ⟶ after_first ∷ [])

-- M4 the fourth send opens no surplus round: class 3 has B 90, and its packet costs 84; class 1 R 3.
abbrev m4 : Entry
m4 = m1 then arrivals then first_send then two_more then
    (look show ⟶ shown (0 ∷ 1 ∷ 3 ∷ []) (record { B = these (169 ∷ 0 ∷ 0 ∷ 90 ∷ 0 ∷ []); R = these (0 ∷ 3 ∷ 0 ∷ 0 ∷ 0 ∷ []) })
    ∷ look (opening 0) ⟶ []
    ∷ [])
    then fourth_send

-- M5 nor does it open a main round after one.
abbrev m5 : Entry
m5 = m1 then arrivals then first_send then two_more then (look (opening 1) ⟶ [] ∷ []) then fourth_send

-- M6 at the end: root B 253, R 9, all else 0.
abbrev m6 : Entry
m6 = m1 then arrivals then first_send then two_more then fourth_send then last_send then
    (look show ⟶ shown [] (record { B = these (253 ∷ 0 ∷ 0 ∷ 0 ∷ 0 ∷ []); R = these (9 ∷ 0 ∷ 0 ∷ 0 ∷ 0 ∷ []) }) ∷ [])

-- M7 an arrival (class 2, length 1, tag 5) after the first send: the next three sends give tags 1, 2, 3, the first with 1 round opened, a
-- main round. The arrival itself changes nothing that shows.
abbrev second_opening : OpenedRound
second_opening = record {
  closed = record { B = these (87 ∷ 0 ∷ 37 ∷ 74 ∷ 0 ∷ []); R = these (64 ∷ 0 ∷ 0 ∷ 0 ∷ 0 ∷ []) };
  kind = main;
  size = 262;
  quotas = 50 ∷ 50 ∷ [];
  after = record { B = these (1 ∷ 0 ∷ 87 ∷ 174 ∷ 0 ∷ []); R = nothing };
}

abbrev m7 : Entry
m7 = m1 then arrivals then first_send then
    (arrival 2 1 5 ⟶ taken 168 ∷ look show ⟶ after_first ∷ look (opening 0) ⟶ (second_opening ∷ []) ∷ [])
    then two_more then fourth_send

-- Two rounds in a send: M7's run one send longer gives tag 5. Its surplus round sends nothing: class 1 quota 6, class 2 B 9; the main
-- round after it has the quotas 84 and 252.
abbrev surplus_opening : OpenedRound
surplus_opening = record {
  closed = record { B = these (253 ∷ 0 ∷ 3 ∷ 0 ∷ 0 ∷ []); R = these (0 ∷ 6 ∷ 0 ∷ 0 ∷ 0 ∷ []) };
  kind = surplus;
  size = 262;
  quotas = 0 ∷ 6 ∷ [];
  after = record { B = these (253 ∷ 0 ∷ 9 ∷ 0 ∷ 0 ∷ []); R = nothing };
}

abbrev main_opening : OpenedRound
main_opening = record {
  closed = record { B = these (253 ∷ 0 ∷ 9 ∷ 0 ∷ 0 ∷ []); R = nothing };
  kind = main;
  size = 262;
  quotas = 84 ∷ 252 ∷ [];
  after = record { B = these (1 ∷ 0 ∷ 261 ∷ 0 ∷ 0 ∷ []); R = nothing };
}

abbrev two_rounds : Entry
two_rounds = m7 then (look (opening 0) ⟶ (surplus_opening ∷ []) ∷ look (opening 1) ⟶ (main_opening ∷ []) ∷ send ⟶ out 2 1 5 2 336 ∷ [])

-- A leaf that turned inactive: an arrival (class 4, length 10, tag 5) after the first send leaves class 4 inactive, and waits for the
-- next round. That one opens in the next send, with class 4 in it: quotas 21 and 21, class 4 B 84.
abbrev rejoins : OpenedRound
rejoins = record {
  closed = record { B = these (87 ∷ 0 ∷ 37 ∷ 74 ∷ 0 ∷ []); R = these (64 ∷ 0 ∷ 0 ∷ 0 ∷ 0 ∷ []) };
  kind = main;
  size = 262;
  quotas = 21 ∷ 21 ∷ [];
  after = record { B = these (4 ∷ 0 ∷ 58 ∷ 116 ∷ 84 ∷ []); R = nothing };
}

abbrev next_round : Entry
next_round = m1 then arrivals then first_send then
    (arrival 4 10 5 ⟶ taken 84
    ∷ look show ⟶ after_first
    ∷ look (opening 0) ⟶ (rejoins ∷ [])
    ∷ send ⟶ out 3 10 2 1 168
    ∷ send ⟶ out 4 10 5 0 168
    ∷ [])

-- A surplus round that sends: what class 3 gave back when it turned inactive covers the second packet of class 2.
abbrev surplus_sends : OpenedRound
surplus_sends = record {
  closed = record { B = these (169 ∷ 0 ∷ 3 ∷ 0 ∷ 0 ∷ []); R = these (0 ∷ 90 ∷ 0 ∷ 0 ∷ 0 ∷ []) };
  kind = surplus;
  size = 262;
  quotas = 0 ∷ 90 ∷ [];
  after = record { B = these (169 ∷ 0 ∷ 93 ∷ 0 ∷ 0 ∷ []); R = nothing };
}

abbrev surplus_round : Entry
surplus_round = m1 then
    (arrival 2 10 1 ⟶ taken 84
    ∷ arrival 3 10 2 ⟶ taken 84
    ∷ arrival 2 10 3 ⟶ taken 168
    ∷ send ⟶ out 2 10 1 1 84
    ∷ send ⟶ out 3 10 2 0 168
    ∷ look (opening 0) ⟶ (surplus_sends ∷ [])
    ∷ send ⟶ out 2 10 3 1 252
    ∷ [])

-- M8 empty input: 1 at 0.
abbrev m8 : Entry
m8 = record { input = []; read = stop Cut 0; exchanges = [] }

-- M9 the single byte 0: 9 at 0.
abbrev m9 : Entry
m9 = record { input = 0 ∷ []; read = stop NoClass 0; exchanges = [] }

-- M10 class 1 with weight 2: 7 at 1.
abbrev m10 : Entry
m10 = record { input = tree_with 2; read = stop TooHeavy 1; exchanges = [] }

-- M11 arrivals to class 4 of length 0 and 11: 13; of length 10: taken. To class 1: 12.
abbrev m11 : Entry
m11 = m1 then
    (arrival 4 0 1 ⟶ refused BadLength 4
    ∷ arrival 4 11 2 ⟶ refused BadLength 4
    ∷ arrival 4 10 3 ⟶ taken 84
    ∷ arrival 1 10 4 ⟶ refused NoLeaf 1
    ∷ [])

-- M12 the 33rd packet in class 4: 14; after one has left, taken. The first 32 have the tags 0 to 31, and nothing waits in another class.
abbrev m12 : Entry
m12 = m1 then table (λ tag. arrival 4 10 tag ⟶ taken (84 * suc tag)) 32 then
    (arrival 4 10 32 ⟶ refused Full 4
    ∷ send ⟶ out 4 10 0 1 84
    ∷ arrival 4 10 33 ⟶ taken 2_688
    ∷ [])

-- Rule 1 written out, tree P with the record 3 1 before it: the listing, with 33 bytes used.
abbrev rule_one : Entry
rule_one = record { input = 3 ∷ 1 ∷ tree_with 3; read = accepted 4 262 33; exchanges = listing.exchanges }

-- Rule 2, tree P with the record 3 2 before it: the same four arrivals. The sends give tags 4, 2, 1, 3 with 1, 1, 1 and 0 rounds, all main
-- rounds, with the sizes in force 262, 174 and 174. In the second the root has 87 + 64 + 174 − 262 = 63 to share out. At the end root B
-- 168,
-- R 6, which are the 174 in force.
abbrev smaller_opening : OpenedRound
smaller_opening = record {
  closed = record { B = these (87 ∷ 0 ∷ 37 ∷ 74 ∷ 0 ∷ []); R = these (64 ∷ 0 ∷ 0 ∷ 0 ∷ 0 ∷ []) };
  kind = main;
  size = 174;
  quotas = 21 ∷ 21 ∷ [];
  after = record { B = these (0 ∷ 0 ∷ 58 ∷ 116 ∷ 0 ∷ []); R = nothing };
}

abbrev same_size_opening : OpenedRound
same_size_opening = record {
  closed = record { B = these (84 ∷ 0 ∷ 58 ∷ 32 ∷ 0 ∷ []); R = nothing };
  kind = main;
  size = 174;
  quotas = 28 ∷ 28 ∷ [];
  after = record { B = these (0 ∷ 0 ∷ 86 ∷ 88 ∷ 0 ∷ []); R = nothing };
}

abbrev rule_two : Entry
rule_two = record { input = 3 ∷ 2 ∷ tree_with 3; read = accepted 4 262 33; exchanges = [] } then arrivals then
    (look (opening 0) ⟶ (first_opening ∷ []) ∷ [])
    then first_send then
    (look (opening 0) ⟶ (smaller_opening ∷ [])
    ∷ send ⟶ out 3 10 2 1 168
    ∷ look (opening 0) ⟶ (same_size_opening ∷ [])
    ∷ send ⟶ out 2 2 1 1 252
    ∷ [])
    then fourth_send then last_send then
    (look show ⟶ shown [] (record { B = these (168 ∷ 0 ∷ 0 ∷ 0 ∷ 0 ∷ []); R = these (6 ∷ 0 ∷ 0 ∷ 0 ∷ 0 ∷ []) }) ∷ look end ⟶ 0 ∷ [])

-- the table
unfoldable pub marked_cases : List Entry
marked_cases =
    listing ∷ m1 ∷ m2 ∷ m3 ∷ m4 ∷ m5 ∷ m6 ∷ m7 ∷ two_rounds ∷ next_round ∷ surplus_round ∷ rule_one ∷ rule_two
    ∷ m8 ∷ m9 ∷ m10 ∷ m11 ∷ m12 ∷ []
