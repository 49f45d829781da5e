mod FileMaps
