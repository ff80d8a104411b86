mod TreeValues
