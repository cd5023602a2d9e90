mod SameContracts
